use Rattle.std.proofs.Common.{◌∙◌, ℕ, List, [], ◌∷◌, set, true≢false, ap, subst, sym, arith}
use Rattle.accumulator_pages.specs.declared.pages.Pages.{Pages}
use Rattle.accumulator_pages.specs.Pages.{HasRoomFor, own_view, pages_places, pages_scores}
use Rattle.accumulator_pages.proofs.Standing.{length-values}
use Rattle.topk_heap.specs.Standing.{without_heap}
use Rattle.session_scores.specs.Scores.{ScoresStand}
use Rattle.session_scores.specs.View.{ScoresView}
use Rattle.session_scores.proofs.Same.{inside_now, noted_after, one_fits, one_noted, one_inside}
use Rattle.session_scores.proofs.scores.Scores.add.Goals as goal

pub add-score-requires-clause-fits : goal.add-score-requires-clause-fits
add-score-requires-clause-fits c = one_fits c.args.w c.args.doc _ _ _ (ap (λ (p : Pages). pages_scores p c.args.pool.now) (ap (λ (s : ScoresView). s.pages) c.self.view_is ∙ c.make_room.ensures.pages))
    (length-values (λ x. x.scores) c.args.self.now.pages.docs (own_view c.args.self.now.pages c.args.pool.now)) c.requires.inside c.requires.fits

pub add-score-requires-clause-frame : goal.add-score-requires-clause-frame
add-score-requires-clause-frame c =
    let before = ap (λ (s : ScoresView). s.pages) c.self.view_is ∙ c.make_room.ensures.pages in
    let stand = subst (λ (s : ScoresView). ScoresStand s c.args.pool.now) (sym c.self.view_is) c.make_room.ensures.stand in
    c.room_for_more_is_room_for_one.ensures c.self.inside.pages c.args.pool.now c.args.doc 1 stand.pages
    (let same = ap (λ (p : Pages). p.docs) before in omega (arith, same, c.requires.inside)) (omega arith)
    (subst (λ (p : Pages). HasRoomFor (own_view p c.args.pool.now) p.docs 1) (sym before) c.requires.frames)

pub returns-clause-stand : goal.returns-clause-stand
returns-clause-stand c =
    let stand = subst (λ (s : ScoresView). ScoresStand s c.args.pool.now) (sym c.self.view_is) c.make_room.ensures.stand in
    let s = c.self.inside in let before = ap (λ (s : ScoresView). s.pages) c.self.view_is ∙ c.make_room.ensures.pages in let scores : List ℕ = pages_scores s.pages c.args.pool.now in
    let size = length-values (λ x. x.scores) s.pages.docs (own_view s.pages c.args.pool.now) ∙ ap (λ (p : Pages). p.docs) before in
    record {
      pages = c.add-score.ensures.stands;
      noted = noted_after (without_heap s.top) s.last c.args.w (c.args.doc ∷ []) scores _ (pages_places s.pages c.args.pool.now) _ s.reached.docs _
          (c.those_raised_are_noted.ensures.more (without_heap s.top) s.last c.args.w (c.args.doc ∷ []) scores (pages_places s.pages c.args.pool.now) s.reached.docs stand.noted
          (inside_now (c.args.doc ∷ []) scores _ size (one_inside c.args.doc _ c.requires.inside)))
          (c.add-score.ensures.scores ∙ ap (λ (v : ℕ). set scores c.args.doc v) c.add-score.ensures.score) c.add-score.ensures.places
          (one_noted c.args.w c.args.doc c.add-score.result scores s.reached.docs c.note.new.self.docs s.last c.add-score.ensures.score c.note.ensures.docs);
      settled = λ e. absurd (true≢false (sym e));
    }
