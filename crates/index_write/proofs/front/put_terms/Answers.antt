use Rattle.std.proofs.Common.{arith, ap, sym, length, drop, map, ◌+◌, ◌∙◌, ◌++◌, ◌≤◌}
use Rattle.index_write.proofs.Below.{TermSegments, segment_data, term_data, u32_bytes, term_bytes, heads_bytes, terms_bytes}
use Rattle.index_write.specs.Chosen.{head_data, chosen_heads, chosen_terms}
use Rattle.index_write.specs.Private.Table.{table_of}
use Rattle.index_write.proofs.Memory.{next_at, terms_next, table_next, heads_count, heads_here, heads_behind, heads_reach, entry_is, text_turn, holds_here}
use Rattle.index_write.proofs.front.put_terms.Goals as goal

pub split_at-requires : goal.split_at-requires
split_at-requires c =
    let terms = c.args.index.now.terms in
    let i = c.loop-term.term-index in
    let t = c.term-item.result in
    let d = length c.args.index.now.names in
    let next = next_at c.as_slice-term-items.result.now terms i t c.as_slice-term-items.ensures c.loop-term-test.true c.term-item.is in
    let table = c.loop-term.invariant.heads ∙ table_next d t (drop i terms) (drop (i + 1) terms) next in
    omega (arith, c.len.ensures, heads_reach (length t.segments) c.loop-term.left.now (chosen_heads d (map segment_data t.segments)) (table_of d (map term_data (drop (i + 1) terms))) table (heads_count d t.segments))

pub put_entry-requires-clause-term : goal.put_entry-requires-clause-term
put_entry-requires-clause-term c =
    (let fits = c.term-item.result.term_fits in omega (arith, fits, ap length (c.as_bytes-bytes.ensures.value ∙ c.as_str.ensures.bytes)))

pub put_entry-requires-clause-heads : goal.put_entry-requires-clause-heads
put_entry-requires-clause-heads c =
    let t = c.term-item.result in
    let few = holds_here (λ (t : TermSegments). length t.segments ≤ 67108864) c.as_slice-term-items.result.now c.args.index.now.terms c.loop-term.term-index t
    c.as_slice-term-items.ensures c.loop-term-test.true c.term-item.is (c.terms_have_documents.ensures.few c.args.index.now c.requires.greatest) in
    omega (arith, few, c.split_at.ensures.front_len, c.len.ensures)

pub loop-term-preserved : goal.loop-term-preserved
loop-term-preserved c =
    let terms = c.args.index.now.terms in
    let i = c.loop-term.term-index in
    let t = c.term-item.result in
    let d = length c.args.index.now.names in
    let next = next_at c.as_slice-term-items.result.now terms i t c.as_slice-term-items.ensures c.loop-term-test.true c.term-item.is in
    let table = c.loop-term.invariant.heads ∙ table_next d t (drop i terms) (drop (i + 1) terms) next in
    let mine = chosen_heads d (map segment_data t.segments) in
    let others = table_of d (map term_data (drop (i + 1) terms)) in
    let n = c.len.result in
    let count = heads_count d t.segments ∙ sym c.len.ensures in
    let here = ap (map head_data) c.split_at.ensures.front ∙ heads_here n c.loop-term.left.now mine others table count in
    let behind = ap (map head_data) c.split_at.ensures.back ∙ heads_behind n c.loop-term.left.now mine others table count in
    let before = c.loop-term.before.now in
    let part = term_bytes before t.term ++ (u32_bytes (length mine) ++ heads_bytes mine) in
    record {
      heads = behind;
      text = ap (λ bytes. c.put_entry.new.out ++ terms_bytes bytes (chosen_terms d (map term_data (drop (i + 1) terms)))) (c.as_bytes-bytes.ensures.value ∙ c.as_str.ensures.bytes)
          ∙ text_turn c.loop-term.out c.put_entry.new.out part (terms_bytes before (chosen_terms d (map term_data (drop i terms)))) (terms_bytes t.term (chosen_terms d (map term_data (drop (i + 1) terms)))) _
          (c.in_ok-put_entry.ensures ∙ ap (λ xs. c.loop-term.out ++ xs) (ap
          (λ bytes. term_bytes before bytes ++ (u32_bytes (length c.split_at.result.0.now) ++ heads_bytes (map head_data c.split_at.result.0.now)))
          (c.as_bytes-bytes.ensures.value ∙ c.as_str.ensures.bytes) ∙ entry_is (term_bytes before t.term) c.split_at.result.0.now mine here))
          (terms_next d before t (drop i terms) (drop (i + 1) terms) next) c.loop-term.invariant.text;
    }
