use Rattle.std.proofs.Common.{◌<◌, ◌^◌, All, ◌∙◌, ℕ, List, ap, true≢false, sym, subst}
use Rattle.accumulator_pages.specs.declared.pages.Pages.{Pages}
use Rattle.accumulator_pages.specs.Adding.{added}
use Rattle.accumulator_pages.specs.Pages.{own_view, pages_places, pages_scores}
use Rattle.accumulator_pages.proofs.Standing.{length-values}
use Rattle.topk_heap.specs.Standing.{without_heap}
use Rattle.session_scores.specs.Scores.{ScoresStand}
use Rattle.session_scores.specs.View.{ScoresView}
use Rattle.session_scores.proofs.Same.{inside_now, noted_after}
use Rattle.session_scores.proofs.scores.Scores.add_all.Goals as goal

pub add_all-requires-clause-fits : goal.add_all-requires-clause-fits
add_all-requires-clause-fits c =
    let before = ap (λ (s : ScoresView). s.pages) c.self.view_is ∙ c.make_room.ensures.pages in
    subst (λ (p : Pages). All (λ (score : ℕ). score < 2 ^ 32) (added c.args.w c.args.docs.now (pages_scores p c.args.pool.now))) (sym before) c.requires.fits

pub returns-clause-stand : goal.returns-clause-stand
returns-clause-stand c =
    let stand = subst (λ (s : ScoresView). ScoresStand s c.args.pool.now) (sym c.self.view_is) c.make_room.ensures.stand in
    let s = c.self.inside in let before = ap (λ (s : ScoresView). s.pages) c.self.view_is ∙ c.make_room.ensures.pages in let scores : List ℕ = pages_scores s.pages c.args.pool.now in
    let size = length-values (λ x. x.scores) s.pages.docs (own_view s.pages c.args.pool.now) ∙ ap (λ (p : Pages). p.docs) before in
    record {
      pages = c.add_all.ensures.stands;
      noted = noted_after (without_heap s.top) s.last c.args.w c.args.docs.now scores _ (pages_places s.pages c.args.pool.now) _ s.reached.docs _
          (c.those_raised_are_noted.ensures.more (without_heap s.top) s.last c.args.w c.args.docs.now scores (pages_places s.pages c.args.pool.now) s.reached.docs stand.noted
          (inside_now c.args.docs.now scores _ size c.requires.inside)) c.add_all.ensures.scores c.add_all.ensures.places c.add_all.ensures.reached;
      settled = λ e. absurd (true≢false (sym e));
    }
