use Rattle.std.proofs.Common.{◌≡◌, ◌++◌, ◌^◌, ℕ, length, drop, map, min}
use Rattle.weights.specs.Weighting.{length_norm}
use Rattle.impact_segments.specs.OneList.{norms_in}
use Rattle.impact_segments.proofs.one_list.length_norms.Given as goal

abbrev pub invariant-loop-length : goal.invariant-loop-length
invariant-loop-length l = l.norms.items ++ map (λ (n : ℕ). min (length_norm (length l.lengths) l.total n) (2 ^ 63)) (drop l.length-index l.lengths) ≡ norms_in l.lengths l.total
