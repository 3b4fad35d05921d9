use Rattle.std.proofs.Common.{◌≡◌, ◌≤◌, ◌*◌, length, take}
use Rattle.lane_kernels.specs.Bitmap.{set_bits}
use Rattle.plain_codecs.proofs.bitmap.checking.ones.Given as goal

abbrev pub invariant-loop-byte : goal.invariant-loop-byte
invariant-loop-byte l = (l.count ≡ length (set_bits 0 (take l.byte-index l.bytes))) × (l.count ≤ 8 * l.byte-index)
