use Rattle.std.proofs.Common.{◌≡◌, ◌+◌, sum_by, drop}
use Rattle.run_audit.proofs.bound.sum_of.Given as goal

abbrev pub invariant-loop-weight : goal.invariant-loop-weight
invariant-loop-weight l = l.sum + sum_by (λ weight. weight) (drop l.weight-index l.weights) ≡ sum_by (λ weight. weight) l.weights
