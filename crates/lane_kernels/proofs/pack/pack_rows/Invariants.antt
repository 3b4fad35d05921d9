use Rattle.std.proofs.Common.{◌≡◌, ℕ, ◌*◌, ◌/◌, ◌<◌, slice_index}
use Rattle.lane_kernels.specs.Block.{block_byte}
use Rattle.lane_kernels.specs.Private.Lanes.{pending_lanes}
use Rattle.lane_kernels.proofs.pack.pack_rows.Given as goal

abbrev pub invariant-loop-row : goal.invariant-loop-row
invariant-loop-row l = record {
  pending : l.pending ≡ pending_lanes l.values l.width (l.row * l.width);
  done : (k : ℕ) → k < 16 * (l.row * l.width / 32) → slice_index l.out k ≡ block_byte l.values l.width k;
}
