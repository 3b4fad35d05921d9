use Rattle.std.proofs.Common.{ℕ, List, length, ap, arith, subst, sym}
use Rattle.accumulator_pages.specs.Pages.{own_view, pages_places, pages_scores}
use Rattle.accumulator_pages.proofs.Standing.{length-values}
use Rattle.topk_heap.specs.Standing.{HoldsFirst, TopView, without_heap}
use Rattle.session_scores.specs.Scores.{ScoresStand}
use Rattle.session_scores.specs.View.{ScoresView}
use Rattle.session_scores.proofs.Same.{cut_now, next_inside}
use Rattle.session_scores.proofs.scores.Scores.cut.Goals as goal

pub cut-next-requires-clause-first : goal.cut-next-requires-clause-first
cut-next-requires-clause-first c =
    let stand = subst (λ (s : ScoresView). ScoresStand s c.args.pool.now) (sym c.self.view_is) c.requires.stand in
    c.those_raised_are_noted.ensures.first (without_heap c.self.inside.top) _ _ _ _ stand.noted

pub cut-next-requires-clause-touched : goal.cut-next-requires-clause-touched
cut-next-requires-clause-touched c =
    let stand = subst (λ (s : ScoresView). ScoresStand s c.args.pool.now) (sym c.self.view_is) c.requires.stand in
    c.those_raised_are_noted.ensures.touched (without_heap c.self.inside.top) _ _ _ _ stand.noted

pub just_behind-self-inside-requires : goal.just_behind-self-inside-requires
just_behind-self-inside-requires c =
    let s = c.self.inside in let scores : List ℕ = pages_scores s.pages c.args.pool.now in
    next_inside scores s.top.k _ _ c.cut-next.result (c.the_runner_up_is_a_document.ensures scores s.top.k) c.cut-next.ensures.next
    (length-values (λ x. x.scores) s.pages.docs (own_view s.pages c.args.pool.now)) c.self.invariant.docs

pub invariant_of-self : goal.invariant_of-self
invariant_of-self c =
    let stand = c.self.invariant in
    let k = ap (λ (t : TopView). t.k) c.cut-next.ensures.same in
    let room = ap (λ (t : TopView). t.room) c.cut-next.ensures.same in
    let size = ap (λ (xs : List ℕ). length xs) c.as_slice.ensures.docs in
    record {
      docs = stand.docs;
      step = omega (arith, stand.step, k);
      few = omega (arith, stand.few, k);
      limit = omega (arith, stand.block, c.cut-next.ensures.notes, c.cut-next.ensures.few, size);
      block = omega (arith, stand.block, c.cut-next.ensures.notes, k);
      room = omega (arith, stand.room, c.cut-next.ensures.notes, room);
    }

pub returns-clause-room : goal.returns-clause-room
returns-clause-room c = omega (arith, c.self.invariant.step, c.self.invariant.block, c.cut-next.ensures.notes, c.cut-next.ensures.few)

pub returns-clause-stand : goal.returns-clause-stand
returns-clause-stand c =
    let stand = subst (λ (s : ScoresView). ScoresStand s c.args.pool.now) (sym c.self.view_is) c.requires.stand in
    let s = c.self.inside in let scores : List ℕ = pages_scores s.pages c.args.pool.now in
    let places : List ℕ = pages_places s.pages c.args.pool.now in
    record {
      pages = stand.pages;
      noted = cut_now (without_heap s.top) (without_heap c.cut-next.new.self) scores places c.cut-next.new.noted.docs c.just_behind-self-inside.result c.cut-next.result
          (c.those_raised_are_noted.ensures.cut (without_heap s.top) s.last scores places s.reached.docs c.cut-next.new.noted.docs stand.noted c.cut-next.ensures.first)
          (ap without_heap c.cut-next.ensures.same) c.cut-next.ensures.next c.just_behind-self-inside.ensures;
      settled = λ e. subst (λ (t : TopView). HoldsFirst t scores) (sym c.cut-next.ensures.same) (stand.settled e);
    }
