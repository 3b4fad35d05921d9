use Rattle.shared_lemmas.proofs.Common.{ℕ, List, arith, ap, length, length-append, drop, map, ◌+◌}
use Rattle.index_write.proofs.Below.{index_data, segment_data, term_data, Segment}
use Rattle.index_write.specs.Chosen.{chosen_payloads, table_payloads}
use Rattle.index_write.proofs.Memory.{next_at, payloads_next}
use Rattle.index_write.proofs.lengths.all_payloads_len.Goals as goal

pub segments_len-len-requires-clause-few : goal.segments_len-len-requires-clause-few
segments_len-len-requires-clause-few c =
    let index = index_data c.args.index.now in
    let bound = c.parts_are_small.ensures.payloads index (c.indexes_in_memory_are_indexes.ensures.index c.args.index.now c.requires) in
    let d = c.len-d.result in
    let terms = c.args.index.now.terms in
    let i = c.loop-term.term-index in
    let t = c.term-item.result in
    let next = next_at c.as_slice-term-items.result.now terms i t c.as_slice-term-items.ensures c.loop-term-test.true c.term-item.is in
    let step = ap length (payloads_next (length c.args.index.now.names) t (drop i terms) (drop (i + 1) terms) next) in
    let parts = length-append (chosen_payloads (length c.args.index.now.names) (map segment_data t.segments)) (table_payloads (length c.args.index.now.names) (map term_data (drop (i + 1) terms))) in
    let here = ap (λ (ss : List Segment). length (chosen_payloads d (map segment_data ss))) c.as_slice.ensures in
    let same = ap (λ (n : ℕ). length (chosen_payloads n (map segment_data t.segments))) c.len-d.ensures in
    omega (arith, here, same, step, parts, c.loop-term.invariant, bound)

pub overflow_add-len : goal.overflow_add-len
overflow_add-len c =
    let index = index_data c.args.index.now in
    let bound = c.parts_are_small.ensures.payloads index (c.indexes_in_memory_are_indexes.ensures.index c.args.index.now c.requires) in
    let d = c.len-d.result in
    let terms = c.args.index.now.terms in
    let i = c.loop-term.term-index in
    let t = c.term-item.result in
    let next = next_at c.as_slice-term-items.result.now terms i t c.as_slice-term-items.ensures c.loop-term-test.true c.term-item.is in
    let step = ap length (payloads_next (length c.args.index.now.names) t (drop i terms) (drop (i + 1) terms) next) in
    let parts = length-append (chosen_payloads (length c.args.index.now.names) (map segment_data t.segments)) (table_payloads (length c.args.index.now.names) (map term_data (drop (i + 1) terms))) in
    let here = ap (λ (ss : List Segment). length (chosen_payloads d (map segment_data ss))) c.as_slice.ensures in
    let same = ap (λ (n : ℕ). length (chosen_payloads n (map segment_data t.segments))) c.len-d.ensures in
    omega (arith, here, same, step, parts, c.segments_len-len.ensures, c.loop-term.invariant, bound)

pub returns-clause-few : goal.returns-clause-few
returns-clause-few c =
    let index = index_data c.args.index.now in
    omega (arith, c.loop-term.invariant, c.parts_are_small.ensures.payloads index (c.indexes_in_memory_are_indexes.ensures.index c.args.index.now c.requires))
