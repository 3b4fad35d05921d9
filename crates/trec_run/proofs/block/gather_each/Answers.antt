use Rattle.std.proofs.Common.{◌≡◌, ℕ, List, get_or, [], Some, slice_index_or, ap, sym, ◌∙◌, arith}
use Rattle.shared_lemmas.proofs.Common.{get_or_from_slice_get}
use Rattle.jass_base.specs.declared.answer.Hit.{Hit}
use Rattle.trec_run.specs.Private.Columns.{whole_tag}
use Rattle.gathered_text.proofs.Compose.{up_to_failed, up_to_more}
use Rattle.trec_run.proofs.Lines.{line_next}
use Rattle.trec_run.proofs.block.gather_each.Goals as goal

pub returns-in_err-gather_line : goal.returns-in_err-gather_line
returns-in_err-gather_line g c =
    let names : List (List ℕ) = g.N.Names.names c.args.index.now in
    let i : ℕ = c.loop-hit.hit-index in
    let d : Hit = record { doc = 0; score = 0 } in
    let name : List ℕ = c.as_bytes-name.result.now in
    let doc : ℕ = (get_or c.args.hits.now i d).doc in
    let named : slice_index_or names doc [] ≡ name = get_or_from_slice_get names doc name [] (c.name.ensures ∙ ap Some (sym c.as_bytes-name.ensures.value)) in
    up_to_failed _ _ _ (line_next names c.args.shared.now.id.now (whole_tag c.args.shared.now) c.args.hits.now i c.loop-hit.rank d name c.loop-hit-test.true named) c.loop-hit.invariant.text c.from_residual.ensures.0 c.in_err-gather_line.ensures

pub loop-hit-preserved : goal.loop-hit-preserved
loop-hit-preserved g c =
    let names : List (List ℕ) = g.N.Names.names c.args.index.now in
    let i : ℕ = c.loop-hit.hit-index in
    let d : Hit = record { doc = 0; score = 0 } in
    let name : List ℕ = c.as_bytes-name.result.now in
    let doc : ℕ = (get_or c.args.hits.now i d).doc in
    let named : slice_index_or names doc [] ≡ name = get_or_from_slice_get names doc name [] (c.name.ensures ∙ ap Some (sym c.as_bytes-name.ensures.value)) in
    record {
      ranked = omega (arith, c.loop-hit.invariant.ranked);
      text = up_to_more _ _ _ (line_next names c.args.shared.now.id.now (whole_tag c.args.shared.now) c.args.hits.now i c.loop-hit.rank d name c.loop-hit-test.true named) c.loop-hit.invariant.text c.in_ok-gather_line.ensures;
    }
