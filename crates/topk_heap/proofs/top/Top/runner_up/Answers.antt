use Rattle.shared_lemmas.proofs.Common.{◌≡◌, ◌∙◌, ◌+◌, length, subst, IfSome}
use Rattle.ranking_model.specs.Scores.{runner_up}
use Rattle.topk_heap.specs.Hits.{hit_at}
use Rattle.topk_heap.specs.Standing.{HoldsFirst, TopView}
use Rattle.topk_heap.proofs.Ranking.{last_is, looked_up, next_is}
use Rattle.topk_heap.proofs.top.Top.runner_up.Goals as goal

pub returns-clause-next : goal.returns-clause-next
returns-clause-next c scores = subst (λ (t : TopView). HoldsFirst t scores → c.copied.result ≡ runner_up scores t.k) c.self.view_is
    (λ first. next_is scores c.self.inside.k c.self.inside.hits.hits c.as_slice.result.now c.copied.result c.self.invariant.order c.as_slice.ensures
    (c.copied.ensures ∙ looked_up (λ x. x.now) c.as_slice.result.now c.self.inside.k c.get.result c.get.ensures.lookup.0 c.get.ensures.lookup.1) first)

pub returns-clause-full : goal.returns-clause-full
returns-clause-full c = subst (λ (t : TopView). IfSome c.copied.result (λ hit. length t.hits ≡ t.k + 1)) c.self.view_is
    (last_is c.self.inside.hits.hits c.as_slice.result.now c.self.inside.k c.copied.result c.self.invariant.few c.as_slice.ensures
    (c.copied.ensures ∙ looked_up (λ x. x.now) c.as_slice.result.now c.self.inside.k c.get.result c.get.ensures.lookup.0 c.get.ensures.lookup.1)).0

pub returns-clause-last : goal.returns-clause-last
returns-clause-last c = subst (λ (t : TopView). IfSome c.copied.result (λ hit. hit ≡ hit_at t.hits 0)) c.self.view_is
    (last_is c.self.inside.hits.hits c.as_slice.result.now c.self.inside.k c.copied.result c.self.invariant.few c.as_slice.ensures
    (c.copied.ensures ∙ looked_up (λ x. x.now) c.as_slice.result.now c.self.inside.k c.get.result c.get.ensures.lookup.0 c.get.ensures.lookup.1)).1
