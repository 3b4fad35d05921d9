use Rattle.std.proofs.Common.{◌≡◌, ◌==◌, ℕ, ◌<◌, false, slice_index}
use Rattle.lane_kernels.proofs.zeros.first_zero_from.Given as goal

abbrev pub invariant-loop-at : goal.invariant-loop-at
invariant-loop-at l = (k : ℕ) → k < l.at → (slice_index l.slots k == 0) ≡ false
