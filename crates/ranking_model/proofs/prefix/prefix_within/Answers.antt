use Rattle.shared_lemmas.proofs.Common.{◌≡◌, ◌+◌, length, sym, ap, arith, sum_by_more}
use Rattle.ranking_model.specs.declared.plan_segment.PlanSegment.{PlanSegment}
use Rattle.ranking_model.specs.Plan.{size_of_first}
use Rattle.ranking_model.proofs.Totals.{prefix_is}
use Rattle.ranking_model.proofs.prefix.prefix_within.Goals as goal

pub returns-then-left-size-clause-prefix : goal.returns-then-left-size-clause-prefix
returns-then-left-size-clause-prefix c =
    let more = sum_by_more (λ (segment : PlanSegment). length segment.docs) c.args.segments.now c.loop-count.count c.index-segments-count.result c.loop-count-test.true in
    let size = ap (λ (segment : PlanSegment). length segment.docs) c.index-segments-count.is in
    let spent : c.loop-count.left + size_of_first c.loop-count.count c.args.segments.now ≡ c.args.budget = c.loop-count.invariant in
    sym (prefix_is c.args.segments.now c.args.budget c.loop-count.count (omega arith) (omega arith) (λ h. omega arith))
