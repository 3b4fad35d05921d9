use Rattle.shared_lemmas.proofs.Common.{ℕ, List, count_by, ltb, ap, ◌∙◌, arith, sum_by_more}
use Rattle.std.proofs.lemmas.List.{take_all}
use Rattle.accumulator_pages.specs.Adding.{is_touched}
use Rattle.accumulator_pages.specs.Pages.{own_view, pages_scores}
use Rattle.accumulator_pages.specs.View.{PagesView}
use Rattle.accumulator_pages.proofs.Counting.{byte_worth, worth}
use Rattle.accumulator_pages.proofs.Standing.{length-values}
use Rattle.accumulator_pages.proofs.pages.Pages.touched.Goals as goal

pub loop-doc-preserved : goal.loop-doc-preserved
loop-doc-preserved c =
    let scores : List ℕ = pages_scores c.args.self.now c.args.pool.now in
    let size = length-values (λ x. x.scores) c.args.self.now.docs (own_view c.args.self.now c.args.pool.now) in
    omega (
      arith,
      c.loop-doc.invariant,
      sum_by_more (λ x. worth (is_touched x)) scores c.loop-doc.doc 0 (omega (arith, size, ap (λ (p : PagesView). p.docs) c.self.view_is, c.loop-doc-test.true)),
      ap (λ x. worth (is_touched x)) c.get.ensures,
      c.from-touched.ensures ∙ byte_worth (ltb 0 c.get.result),
    )

pub returns : goal.returns
returns c =
    let scores : List ℕ = pages_scores c.args.self.now c.args.pool.now in
    let size = length-values (λ x. x.scores) c.args.self.now.docs (own_view c.args.self.now c.args.pool.now) in
    c.loop-doc.invariant ∙ ap (count_by is_touched) (take_all c.loop-doc.doc scores (omega (arith, size, ap (λ (p : PagesView). p.docs) c.self.view_is, c.loop-doc-test.false)))
