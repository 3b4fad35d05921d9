use Rattle.std.proofs.Common.{◌≡◌, ℕ, ◌*◌, ◌<◌, length, slice_index}
use Rattle.lane_kernels.specs.Block.{block_value}
use Rattle.lane_kernels.proofs.unpack.unpack_at.Given as goal

abbrev pub invariant-loop-part : goal.invariant-loop-part
invariant-loop-part l = record {
  long : length l.out ≡ 128;
  done : (k : ℕ) → k < 4 * (8 * l.part) → slice_index l.out k ≡ block_value l.bytes l.width k;
}
