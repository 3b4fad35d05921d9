use Rattle.std.proofs.Common.{◌≡◌, take, subst}
use Rattle.ranking_model.specs.Scores.{first_ranked}
use Rattle.topk_heap.specs.Standing.{HoldsFirst, TopView}
use Rattle.topk_heap.proofs.Ranking.{ranked_is}
use Rattle.topk_heap.proofs.top.Top.ranked.Goals as goal

pub returns : goal.returns
returns c scores =
    subst (λ (t : TopView). HoldsFirst t scores → take c.min.result c.as_slice-hits.result.now ≡ first_ranked scores t.k) c.self.view_is
    (λ first. ranked_is scores c.self.inside.k c.min.result c.self.inside.hits.hits c.as_slice-hits.result.now c.self.invariant.order c.as_slice-hits.ensures c.min.ensures first)
