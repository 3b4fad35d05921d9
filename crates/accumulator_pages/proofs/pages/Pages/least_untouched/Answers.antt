use Rattle.std.proofs.Common.{◌*◌, ◌+◌, ◌<◌, ap, refl, arith}
use Rattle.accumulator_pages.specs.Pages.{own_view, pages_scores}
use Rattle.accumulator_pages.specs.View.{PagesView}
use Rattle.accumulator_pages.proofs.Standing.{length-values}
use Rattle.accumulator_pages.proofs.Untouched.{all_touched, first_untouched, joined, joined_page}
use Rattle.accumulator_pages.proofs.pages.Pages.least_untouched.Goals as goal

pub returns-then-doc-self : goal.returns-then-doc-self
returns-then-doc-self c =
    let same = ap (λ (p : PagesView). p.docs) c.self.view_is in
    let within : 256 * c.loop-page.page + c.in-Some.slot < c.args.self.now.docs = omega (arith, same, c.if-doc-self.true) in
    first_untouched (pages_scores c.args.self.now c.args.pool.now) c.args.self.now.docs (256 * c.loop-page.page + c.in-Some.slot)
    (length-values (λ x. x.scores) c.args.self.now.docs (own_view c.args.self.now c.args.pool.now)) within
    (joined (pages_scores c.args.self.now c.args.pool.now) c.args.self.now.docs c.loop-page.page c.in-Some.slot c.loop-page.invariant c.in-Some.ensures.before)
    (c.in-Some.ensures.untouched within)

pub returns-else-doc-self : goal.returns-else-doc-self
returns-else-doc-self c = all_touched (pages_scores c.args.self.now c.args.pool.now) c.args.self.now.docs (256 * c.loop-page.page + c.in-Some.slot)
    (length-values (λ x. x.scores) c.args.self.now.docs (own_view c.args.self.now c.args.pool.now)) (omega (arith, ap (λ (p : PagesView). p.docs) c.self.view_is, c.if-doc-self.false))
    (joined (pages_scores c.args.self.now c.args.pool.now) c.args.self.now.docs c.loop-page.page c.in-Some.slot c.loop-page.invariant c.in-Some.ensures.before)

pub loop-page-preserved : goal.loop-page-preserved
loop-page-preserved c =
    joined_page (pages_scores c.args.self.now c.args.pool.now) c.args.self.now.docs c.loop-page.page (c.loop-page.page + 1) refl c.loop-page.invariant (c.in_default.ensures.none refl)

pub returns : goal.returns
returns c = all_touched (pages_scores c.args.self.now c.args.pool.now) c.args.self.now.docs (256 * c.loop-page.page)
    (length-values (λ x. x.scores) c.args.self.now.docs (own_view c.args.self.now c.args.pool.now))
    (omega (arith, ap (λ (p : PagesView). p.docs) c.self.view_is, c.loop-page-test.false, c.div_ceil-page-end.ensures)) c.loop-page.invariant
