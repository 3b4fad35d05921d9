use Rattle.std.proofs.Common.{◌≡◌, drop, fold}
use Rattle.weights.specs.Quantizing.{range_of, widened}
use Rattle.impact_segments.proofs.bounds.norm_ends.Given as goal

abbrev pub invariant-loop-norm : goal.invariant-loop-norm
invariant-loop-norm l = fold widened l.ends (drop l.norm-index l.norms) ≡ range_of l.norms
