use Rattle.std.proofs.Common.{ap, sym, length, drop, map, ◌+◌, ◌∙◌, ◌++◌}
use Rattle.index_model.specs.Views.{segment_data, term_data}
use Rattle.index_write.specs.Chosen.{head_data, chosen_heads, chosen_payloads, table_payloads}
use Rattle.index_write.specs.Private.Table.{table_of}
use Rattle.index_write.proofs.Memory.{next_at, payloads_next, table_next, heads_count, heads_here, heads_behind, text_turn}
use Rattle.index_write.proofs.payloads.put_all_payloads.Goals as goal

pub put_payloads-requires-clause-heads : goal.put_payloads-requires-clause-heads
put_payloads-requires-clause-heads c =
    let terms = c.args.index.now.terms in
    let i = c.loop-term.term-index in
    let t = c.term-item.result in
    let d = length c.args.index.now.names in
    let next = next_at c.as_slice-term-items.result.now terms i t c.as_slice-term-items.ensures c.loop-term-test.true c.term-item.is in
    let table = c.loop-term.invariant.heads ∙ table_next d t (drop i terms) (drop (i + 1) terms) next in
    let mine = chosen_heads d (map segment_data t.segments) in
    let others = table_of d (map term_data (drop (i + 1) terms)) in
    let here = ap (map head_data) c.split_at.ensures.front ∙ heads_here c.len.result c.loop-term.left.now mine others table (heads_count d t.segments ∙ sym c.len.ensures) in
    here ∙ ap (λ d. chosen_heads d (map segment_data t.segments)) (sym c.len-d.ensures) ∙ ap (λ ss. chosen_heads c.len-d.result (map segment_data ss)) (sym c.as_slice.ensures)

pub loop-term-preserved : goal.loop-term-preserved
loop-term-preserved c =
    let terms = c.args.index.now.terms in
    let i = c.loop-term.term-index in
    let t = c.term-item.result in
    let d = length c.args.index.now.names in
    let next = next_at c.as_slice-term-items.result.now terms i t c.as_slice-term-items.ensures c.loop-term-test.true c.term-item.is in
    let table = c.loop-term.invariant.heads ∙ table_next d t (drop i terms) (drop (i + 1) terms) next in
    let mine = chosen_heads d (map segment_data t.segments) in
    let others = table_of d (map term_data (drop (i + 1) terms)) in
    let part = chosen_payloads d (map segment_data t.segments) in
    let same = ap (λ d. chosen_payloads d (map segment_data c.as_slice.result.now)) c.len-d.ensures ∙ ap (λ ss. chosen_payloads d (map segment_data ss)) c.as_slice.ensures in
    record {
      heads = ap (map head_data) c.split_at.ensures.back ∙ heads_behind c.len.result c.loop-term.left.now mine others table (heads_count d t.segments ∙ sym c.len.ensures);
      text = text_turn c.loop-term.out c.put_payloads.new.out part (table_payloads d (map term_data (drop i terms))) (table_payloads d (map term_data (drop (i + 1) terms))) _
          (c.in_ok-put_payloads.ensures ∙ ap (λ xs. c.loop-term.out ++ xs) same) (payloads_next d t (drop i terms) (drop (i + 1) terms) next) c.loop-term.invariant.text;
    }
