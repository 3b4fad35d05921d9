use Rattle.std.proofs.Common.{◌-◌}
use Rattle.max_score.specs.Private.Walking.{IsWalking}
use Rattle.max_score.proofs.walk.walk_windows.Given as goal

abbrev pub invariant-windows : goal.invariant-windows
invariant-windows l = IsWalking l.docs l.fn.best.k l.lists l.from l.best

abbrev pub decreases-windows : goal.decreases-windows
decreases-windows l = l.docs - l.from
