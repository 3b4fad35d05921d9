use Rattle.shared_lemmas.proofs.Common.{◌∙◌, ◌+◌, List, length, ap, subst, sym, arith, length-take, nat_tests, All-from_recursion}
use Rattle.topk_heap.proofs.Below.{Hit, sorted, rank_cmp, pages_scores}
use Rattle.accumulator_pages.specs.Pages.{pages_places}
use Rattle.topk_heap.specs.Standing.{IsTouched}
use Rattle.topk_heap.specs.Private.Standing.{AreInOrder}
use Rattle.topk_heap.proofs.Ranking.{first_in_order}
use Rattle.topk_heap.proofs.Rows.{docs_placed, docs_scored}
use Rattle.topk_heap.proofs.Settled.{new_are, new_touched, ready, row_touched, some_still, standing_are, stands_settled, vacant_places, within}
use Rattle.topk_heap.proofs.top.Top.settle.Goals as goal

pub rescore-requires-clause-inside : goal.rescore-requires-clause-inside
rescore-requires-clause-inside c i d inside =
    let r = ready c.args.raised.now c.self.view_is c.self.invariant c.requires.placed c.requires.touched c.requires.once c.requires.first in
    within _ _ _ (docs_scored c.args.pages.now c.args.pool.now) (All-from_recursion (λ (h : Hit). IsTouched (pages_scores c.args.pages.now c.args.pool.now) h.doc) _ r.touched i d inside).0

pub gather-requires-clause-inside : goal.gather-requires-clause-inside
gather-requires-clause-inside c i d inside = let is = (c.requires.touched i d inside).0 in within _ _ _ (docs_scored c.args.pages.now c.args.pool.now) is

pub gather-requires-clause-vacant : goal.gather-requires-clause-vacant
gather-requires-clause-vacant c none doc =
    let r = ready c.args.raised.now c.self.view_is c.self.invariant c.requires.placed c.requires.touched c.requires.once c.requires.first in
    vacant_places c.self.inside.hits.hits (pages_places c.args.pages.now c.args.pool.now) (grind (arith, nat_tests, none, c.len-standing.ensures)) r.had doc

pub clear_places-requires-clause-inside : goal.clear_places-requires-clause-inside
clear_places-requires-clause-inside c i d inside =
    let r = ready c.args.raised.now c.self.view_is c.self.invariant c.requires.placed c.requires.touched c.requires.once c.requires.first in
    let front = standing_are _ _ _ _ _ _ _ c.rescore.ensures.hits c.gather.ensures.hits c.as_slice.ensures c.len-standing.ensures in
    within _ _ _ (docs_scored c.args.pages.now c.args.pool.now) (row_touched _ _ _ r.touched front i d inside).0

pub clear_places-requires-clause-touched : goal.clear_places-requires-clause-touched
clear_places-requires-clause-touched c i d inside =
    let r = ready c.args.raised.now c.self.view_is c.self.invariant c.requires.placed c.requires.touched c.requires.once c.requires.first in
    (row_touched _ _ _ r.touched (standing_are _ _ _ _ _ _ _ c.rescore.ensures.hits c.gather.ensures.hits c.as_slice.ensures c.len-standing.ensures) i d inside).1

pub set_places-requires-clause-few : goal.set_places-requires-clause-few
set_places-requires-clause-few c =
    let is = ap (λ (xs : List Hit). length xs) (c.as_slice-2.ensures ∙ c.keep_first.ensures.hits) in
    let few = length-take (c.self.inside.k + 1) (sorted rank_cmp c.gather.new.hits.hits) in
    omega (arith, is, few, c.self.invariant.small)

pub set_places-requires-clause-inside : goal.set_places-requires-clause-inside
set_places-requires-clause-inside c i d inside =
    let r = ready c.args.raised.now c.self.view_is c.self.invariant c.requires.placed c.requires.touched c.requires.once c.requires.first in
    let new = new_are r c.rescore.ensures.hits c.gather.ensures.hits c.keep_first.ensures.hits in
    within _ _ _ (docs_scored c.args.pages.now c.args.pool.now ∙ sym c.clear_places.ensures.keeps.same.docs) (new_touched _ _ _ _ new c.as_slice-2.ensures i d inside).0

pub set_places-requires-clause-touched : goal.set_places-requires-clause-touched
set_places-requires-clause-touched c i d inside =
    let r = ready c.args.raised.now c.self.view_is c.self.invariant c.requires.placed c.requires.touched c.requires.once c.requires.first in
    let new = new_are r c.rescore.ensures.hits c.gather.ensures.hits c.keep_first.ensures.hits in
    some_still _ _ _ c.clear_places.ensures.keeps.scores (new_touched _ _ _ _ new c.as_slice-2.ensures i d inside).1

pub invariant_of-self : goal.invariant_of-self
invariant_of-self c =
    let r = ready c.args.raised.now c.self.view_is c.self.invariant c.requires.placed c.requires.touched c.requires.once c.requires.first in
    let new = new_are r c.rescore.ensures.hits c.gather.ensures.hits c.keep_first.ensures.hits in
    record {
      order = subst AreInOrder (sym new) (first_in_order (pages_scores c.args.pages.now c.args.pool.now) (c.self.inside.k + 1));
      few = omega (arith, ap (λ (xs : List Hit). length xs) c.keep_first.ensures.hits, length-take (c.self.inside.k + 1) (sorted rank_cmp c.gather.new.hits.hits));
      small = c.self.invariant.small;
      room = omega (arith, c.self.invariant.room, c.keep_first.ensures.room, c.gather.ensures.room, c.rescore.ensures.room);
      beside = omega (arith, c.self.invariant.beside, c.keep_first.ensures.room, c.gather.ensures.room, c.rescore.ensures.room);
    }

pub returns-clause-stands : goal.returns-clause-stands
returns-clause-stands c =
    let r = ready c.args.raised.now c.self.view_is c.self.invariant c.requires.placed c.requires.touched c.requires.once c.requires.first in
    let new = new_are r c.rescore.ensures.hits c.gather.ensures.hits c.keep_first.ensures.hits in
    let front = standing_are _ _ _ _ _ _ _ c.rescore.ensures.hits c.gather.ensures.hits c.as_slice.ensures c.len-standing.ensures in
    stands_settled c.self.inside.k c.keep_first.new.self _ _ _ _ _ _ _ _ _ r
    (docs_placed c.args.pages.now c.args.pool.now ∙ sym (docs_scored c.args.pages.now c.args.pool.now))
    front c.clear_places.ensures.places new c.as_slice-2.ensures c.set_places.ensures.places (c.set_places.ensures.keeps.scores ∙ c.clear_places.ensures.keeps.scores)
