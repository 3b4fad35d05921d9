use Rattle.shared_lemmas.proofs.Common.{◌∙◌, ◌<◌, ℕ, ap, subst, sym, IfSome, Option}
use Rattle.accumulator_pages.specs.Pages.{pages_scores}
use Rattle.jass_base.specs.declared.answer.Hit.{Hit}
use Rattle.ranking_model.specs.Scores.{runner_up}
use Rattle.topk_heap.specs.Noting.{just_behind}
use Rattle.topk_heap.proofs.Noted.{batch_noted}
use Rattle.topk_heap.proofs.Rows.{docs_scored}
use Rattle.answer_tests.proofs.heaps.add_batch.Goals as goal

pub just_behind-last-requires : goal.just_behind-last-requires
just_behind-last-requires g c =
    subst (λ (o : Option Hit). IfSome o (λ (hit : Hit). hit.doc < 6)) (sym (c.runner_up.ensures.next (pages_scores c.args.pages.now c.args.pool.now) c.requires.top.hits))
    (subst (λ (n : ℕ). IfSome (runner_up (pages_scores c.args.pages.now c.args.pool.now) c.args.top.now.k) (λ (hit : Hit). hit.doc < n))
    (docs_scored c.args.pages.now c.args.pool.now ∙ c.requires.count) (c.the_runner_up_is_a_document.ensures (pages_scores c.args.pages.now c.args.pool.now) c.args.top.now.k))

pub settle-requires-clause-placed : goal.settle-requires-clause-placed
settle-requires-clause-placed g c = c.those_raised_are_noted.ensures.placed c.args.top.now _ _ _ _
    (batch_noted c.args.top.now _ c.args.w _ c.args.docs.now (pages_scores c.args.pages.now c.args.pool.now) _ _ _ _ _ _ c.requires.top (docs_scored c.args.pages.now c.args.pool.now) c.requires.inside
    (c.just_behind-last.ensures ∙ ap just_behind (c.runner_up.ensures.next (pages_scores c.args.pages.now c.args.pool.now) c.requires.top.hits))
    c.add_all.ensures.scores c.add_all.ensures.places c.clear.ensures.docs c.add_all.ensures.reached c.as_slice.ensures.docs)

pub settle-requires-clause-touched : goal.settle-requires-clause-touched
settle-requires-clause-touched g c = c.those_raised_are_noted.ensures.touched c.args.top.now _ _ _ _
    (batch_noted c.args.top.now _ c.args.w _ c.args.docs.now (pages_scores c.args.pages.now c.args.pool.now) _ _ _ _ _ _ c.requires.top (docs_scored c.args.pages.now c.args.pool.now) c.requires.inside
    (c.just_behind-last.ensures ∙ ap just_behind (c.runner_up.ensures.next (pages_scores c.args.pages.now c.args.pool.now) c.requires.top.hits))
    c.add_all.ensures.scores c.add_all.ensures.places c.clear.ensures.docs c.add_all.ensures.reached c.as_slice.ensures.docs)

pub settle-requires-clause-once : goal.settle-requires-clause-once
settle-requires-clause-once g c =
    (batch_noted c.args.top.now _ c.args.w _ c.args.docs.now (pages_scores c.args.pages.now c.args.pool.now) _ _ _ _ _ _ c.requires.top (docs_scored c.args.pages.now c.args.pool.now) c.requires.inside
    (c.just_behind-last.ensures ∙ ap just_behind (c.runner_up.ensures.next (pages_scores c.args.pages.now c.args.pool.now) c.requires.top.hits))
    c.add_all.ensures.scores c.add_all.ensures.places c.clear.ensures.docs c.add_all.ensures.reached c.as_slice.ensures.docs).once

pub settle-requires-clause-first : goal.settle-requires-clause-first
settle-requires-clause-first g c = c.those_raised_are_noted.ensures.first c.args.top.now _ _ _ _
    (batch_noted c.args.top.now _ c.args.w _ c.args.docs.now (pages_scores c.args.pages.now c.args.pool.now) _ _ _ _ _ _ c.requires.top (docs_scored c.args.pages.now c.args.pool.now) c.requires.inside
    (c.just_behind-last.ensures ∙ ap just_behind (c.runner_up.ensures.next (pages_scores c.args.pages.now c.args.pool.now) c.requires.top.hits))
    c.add_all.ensures.scores c.add_all.ensures.places c.clear.ensures.docs c.add_all.ensures.reached c.as_slice.ensures.docs)
