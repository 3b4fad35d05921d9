use Rattle.shared_lemmas.proofs.Common.{◌+◌, List, length, ap, subst, sym, arith, length-take}
use Rattle.topk_heap.proofs.Below.{Hit, sorted, rank_cmp, pages_scores}
use Rattle.topk_heap.specs.Private.Standing.{AreInOrder}
use Rattle.topk_heap.proofs.Ranking.{first_in_order}
use Rattle.topk_heap.proofs.Rows.{docs_scored}
use Rattle.topk_heap.proofs.Settled.{has_first, new_are, ready_anew, within}
use Rattle.topk_heap.proofs.top.Top.rank.Goals as goal

pub gather-requires-clause-inside : goal.gather-requires-clause-inside
gather-requires-clause-inside c i d inside = let is = (c.requires.touched i d inside).0 in within _ _ _ (docs_scored c.args.pages.now c.args.pool.now) is

pub gather-requires-clause-vacant : goal.gather-requires-clause-vacant
gather-requires-clause-vacant c all doc = c.requires.vacant.placed.outside doc tt

pub invariant_of-self : goal.invariant_of-self
invariant_of-self c =
    let r = ready_anew c.self.inside.k c.self.inside.hits c.args.noted.now c.self.view_is c.requires.vacant c.requires.touched c.requires.once c.requires.first in
    let new = new_are r c.clear.ensures.hits c.gather.ensures.hits c.keep_first.ensures.hits in
    record {
      order = subst AreInOrder (sym new) (first_in_order (pages_scores c.args.pages.now c.args.pool.now) (c.self.inside.k + 1));
      few = omega (arith, ap (λ (xs : List Hit). length xs) c.keep_first.ensures.hits, length-take (c.self.inside.k + 1) (sorted rank_cmp c.gather.new.hits.hits));
      small = c.self.invariant.small;
      room = omega (arith, c.self.invariant.room, c.keep_first.ensures.room, c.gather.ensures.room, c.clear.ensures.room);
      beside = omega (arith, c.self.invariant.beside, c.keep_first.ensures.room, c.gather.ensures.room, c.clear.ensures.room);
    }

pub returns-clause-first : goal.returns-clause-first
returns-clause-first c =
    let r = ready_anew c.self.inside.k c.self.inside.hits c.args.noted.now c.self.view_is c.requires.vacant c.requires.touched c.requires.once c.requires.first in
    has_first c.self.inside.k c.keep_first.new.self (pages_scores c.args.pages.now c.args.pool.now) (new_are r c.clear.ensures.hits c.gather.ensures.hits c.keep_first.ensures.hits)
