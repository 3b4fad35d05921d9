use Rattle.ranking_model.proofs.PlanSegments.{Grouped}
use Rattle.ranking_model.proofs.plan_segment.group.Given as goal

abbrev pub invariant-loop-posting : goal.invariant-loop-posting
invariant-loop-posting l = Grouped l.segments.items l.postings l.posting-index
