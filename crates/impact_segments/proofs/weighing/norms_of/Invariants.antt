use Rattle.std.proofs.Common.{◌≡◌, ◌++◌, ◌^◌, length, drop, map, min}
use Rattle.impact_segments.proofs.Below.{DocRecord, length_norm}
use Rattle.impact_segments.specs.Private.Weighed.{total_length, norms_of}
use Rattle.impact_segments.proofs.weighing.norms_of.Given as goal

abbrev pub invariant-loop-doc : goal.invariant-loop-doc
invariant-loop-doc l = l.norms.items ++ map (λ (d : DocRecord). min (length_norm (length l.docs) (total_length l.docs) d.length) (2 ^ 63)) (drop l.doc-index l.docs) ≡ norms_of l.docs
