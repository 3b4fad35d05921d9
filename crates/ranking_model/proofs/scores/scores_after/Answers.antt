use Rattle.shared_lemmas.proofs.Common.{◌∙◌, ap, take, length, sum_by, arith, length-take}
use Rattle.ranking_model.specs.Scores.{gain_of}
use Rattle.ranking_model.specs.declared.plan_segment.PlanSegment.{PlanSegment}
use Rattle.ranking_model.proofs.Totals.{scores_are}
use Rattle.ranking_model.proofs.scores.scores_after.Goals as goal

pub returns-clause-scores : goal.returns-clause-scores
returns-clause-scores c =
    let long = ap length c.as_slice.ensures in
    let part = length-take {A = PlanSegment} c.args.count c.as_slice.result.now in
    c.from_vec.ensures ∙ scores_are c.args.plan.now c.loop-segment.scores.items c.args.count c.loop-segment.invariant.length
    (λ d h. c.loop-segment.invariant.each d h ∙ ap (λ n. sum_by (gain_of d) (take n c.args.plan.now.segments)) (omega arith))
