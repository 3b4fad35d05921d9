use Rattle.std.proofs.Common.{◌+◌, ◌-◌}
use Rattle.max_score.specs.Private.Walking.{IsMarking}
use Rattle.max_score.proofs.walk.walk_marked.Given as goal

abbrev pub invariant-marked : goal.invariant-marked
invariant-marked l = IsMarking l.docs l.fn.best.k l.lists l.from l.marks l.doc l.ahead l.best

abbrev pub decreases-marked : goal.decreases-marked
decreases-marked l = l.from + 64 - l.doc
