use Rattle.std.proofs.Common.{ℕ, ◌+◌, All, List, subst, sym, arith}
use Rattle.accumulator_pages.specs.Pages.{pages_places, pages_scores}
use Rattle.topk_heap.specs.Standing.{HaveFirst, IsTouched, without_heap}
use Rattle.session_scores.specs.Scores.{ScoresStand}
use Rattle.session_scores.specs.View.{ScoresView}
use Rattle.session_scores.proofs.Same.{noted_still}
use Rattle.session_scores.proofs.scores.Scores.settle_noted.Goals as goal

pub rank-requires-clause-first : goal.rank-requires-clause-first
rank-requires-clause-first c =
    let stand = subst (λ (s : ScoresView). ScoresStand s c.args.pool.now) (sym c.self.view_is) c.requires.stand in
    subst (λ (n : List ℕ). HaveFirst (pages_scores c.self.inside.pages c.args.pool.now) (c.self.inside.top.k + 1) n) (sym c.as_slice.ensures.docs)
    (c.those_raised_are_noted.ensures.first (without_heap c.self.inside.top) _ _ _ _ stand.noted)

pub rank-requires-clause-touched : goal.rank-requires-clause-touched
rank-requires-clause-touched c =
    let stand = subst (λ (s : ScoresView). ScoresStand s c.args.pool.now) (sym c.self.view_is) c.requires.stand in
    subst (λ (n : List ℕ). All (IsTouched (pages_scores c.self.inside.pages c.args.pool.now)) n) (sym c.as_slice.ensures.docs)
    (c.those_raised_are_noted.ensures.touched (without_heap c.self.inside.top) _ _ _ _ stand.noted)

pub invariant_of-self : goal.invariant_of-self
invariant_of-self c =
    let stand = c.self.invariant in
    record {
      docs = stand.docs;
      step = omega (arith, stand.step, c.rank.ensures.k);
      few = omega (arith, stand.few, c.rank.ensures.k);
      limit = stand.limit;
      block = omega (arith, stand.block, c.rank.ensures.k);
      room = omega (arith, stand.room, c.rank.ensures.room);
    }

pub returns-clause-stand : goal.returns-clause-stand
returns-clause-stand c =
    let stand = subst (λ (s : ScoresView). ScoresStand s c.args.pool.now) (sym c.self.view_is) c.requires.stand in
    let s = c.self.inside in
    record {
      pages = stand.pages;
      noted = noted_still s.top c.rank.new.self s.last (pages_scores s.pages c.args.pool.now) (pages_places s.pages c.args.pool.now) s.reached.docs c.rank.ensures.k c.rank.ensures.room stand.noted;
      settled = λ e. c.rank.ensures.first;
    }
