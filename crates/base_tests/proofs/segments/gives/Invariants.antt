use Rattle.std.proofs.Common.{ℕ, ◌-◌, ◌≤◌, List, length}
use Rattle.segment_codecs.specs.Giving.{Gives}
use Rattle.base_tests.proofs.segments.gives.Given as goal

abbrev pub invariant-loop-at : goal.invariant-loop-at
invariant-loop-at l = record {
  stands : (docs : List ℕ) × Gives l.cursor l.bytes docs;
  within : l.at ≤ length l.docs;
}

abbrev pub decreases-loop-at : goal.decreases-loop-at
decreases-loop-at l = length l.docs - l.at
