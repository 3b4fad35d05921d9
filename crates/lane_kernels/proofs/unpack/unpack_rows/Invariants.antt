use Rattle.std.proofs.Common.{◌≡◌, ℕ, ◌*◌, ◌<◌, length, slice_index}
use Rattle.lane_kernels.specs.Block.{block_value}
use Rattle.lane_kernels.proofs.unpack.unpack_rows.Given as goal

abbrev pub invariant-loop-row : goal.invariant-loop-row
invariant-loop-row l = record {
  long : length l.out ≡ 128;
  done : (k : ℕ) → k < 4 * l.row → slice_index l.out k ≡ block_value l.bytes l.width k;
}
