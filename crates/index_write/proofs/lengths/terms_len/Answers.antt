use Rattle.std.proofs.Common.{arith, ap, length, drop, map, ◌+◌, ◌∙◌}
use Rattle.index_write.proofs.Below.{term_data, rest_behind, terms_bytes}
use Rattle.index_write.specs.Chosen.{chosen_terms}
use Rattle.index_write.proofs.Memory.{next_at, terms_next_size}
use Rattle.index_write.proofs.lengths.terms_len.Goals as goal

pub term_len-len-requires : goal.term_len-len-requires
term_len-len-requires c =
    let terms = c.args.index.now.terms in
    let i = c.loop-term.term-index in
    let next = next_at c.as_slice-term-items.result.now terms i c.term-item.result c.as_slice-term-items.ensures c.loop-term-test.true c.term-item.is in
    let rest = ap (λ bytes. length (rest_behind c.loop-term.before.now bytes)) (c.as_bytes-bytes.ensures.value ∙ c.as_str.ensures.bytes) in
    omega (arith, rest, terms_next_size (length c.args.index.now.names) c.loop-term.before.now c.term-item.result (drop i terms) (drop (i + 1) terms) next)

pub overflow_add-len : goal.overflow_add-len
overflow_add-len c =
    let terms = c.args.index.now.terms in
    let i = c.loop-term.term-index in
    let next = next_at c.as_slice-term-items.result.now terms i c.term-item.result c.as_slice-term-items.ensures c.loop-term-test.true c.term-item.is in
    let rest = ap (λ bytes. length (rest_behind c.loop-term.before.now bytes)) (c.as_bytes-bytes.ensures.value ∙ c.as_str.ensures.bytes) in
    omega (arith, rest, terms_next_size (length c.args.index.now.names) c.loop-term.before.now c.term-item.result (drop i terms) (drop (i + 1) terms) next)

pub loop-term-preserved : goal.loop-term-preserved
loop-term-preserved c =
    let terms = c.args.index.now.terms in
    let i = c.loop-term.term-index in
    let d = length c.args.index.now.names in
    let next = next_at c.as_slice-term-items.result.now terms i c.term-item.result c.as_slice-term-items.ensures c.loop-term-test.true c.term-item.is in
    let spelled = c.as_bytes-bytes.ensures.value ∙ c.as_str.ensures.bytes in
    let rest = ap (λ bytes. length (rest_behind c.loop-term.before.now bytes)) spelled in
    let same = ap (λ bytes. length (terms_bytes bytes (chosen_terms d (map term_data (drop (i + 1) terms))))) spelled in
    omega (arith, same, rest, terms_next_size d c.loop-term.before.now c.term-item.result (drop i terms) (drop (i + 1) terms) next)
