use Rattle.std.proofs.Common.{◌-◌, ◌*◌, ◌+◌, ◌≤◌, length}
use Rattle.lane_kernels.specs.Bitmap.{set_bits}
use Rattle.max_score.proofs.BitRows.{from_row}
use Rattle.max_score.proofs.Pieces.{IsStampedBut}
use Rattle.max_score.proofs.reading.stamp_bits.Given as goal

abbrev pub invariant-rows : goal.invariant-rows
invariant-rows l = IsStampedBut l.impact (set_bits (128 * l.first) l.bits) (from_row l.first l.bits l.row) l.fn.impacts l.impacts × (16 * l.row ≤ length l.bits + 15)

abbrev pub decreases-rows : goal.decreases-rows
decreases-rows l = length l.bits - 16 * l.row
