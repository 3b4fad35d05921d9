use Rattle.max_score.specs.Private.Walking.{IsWalking}
use Rattle.max_score.proofs.walk.walk.Given as goal

abbrev pub invariant-rest : goal.invariant-rest
invariant-rest l = IsWalking l.docs l.fn.best.k l.lists l.doc l.best
