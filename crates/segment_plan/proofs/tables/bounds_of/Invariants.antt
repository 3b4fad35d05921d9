use Rattle.segment_plan.proofs.Bounds.{AreSeen}
use Rattle.segment_plan.proofs.tables.bounds_of.Given as goal

abbrev pub invariant-loop-at : goal.invariant-loop-at
invariant-loop-at l = AreSeen l.entries l.terms l.at l.bound l.bounds.items l.greatest

abbrev pub decreases-loop-at : goal.decreases-loop-at
decreases-loop-at l = l.at
