use Rattle.std.proofs.Common.{◌-◌, ◌*◌, ◌+◌, ◌≤◌, length}
use Rattle.lane_kernels.specs.Bitmap.{set_bits}
use Rattle.session_engine.proofs.BitRows.{from_row}
use Rattle.session_engine.proofs.PartlyScored.{AreScoredBut}
use Rattle.session_engine.proofs.scoring.score_bits.Given as goal

abbrev pub invariant-rows : goal.invariant-rows
invariant-rows l = AreScoredBut l.weight (set_bits (128 * l.first) l.bits) (from_row l.first l.bits l.row) l.fn.scores l.fn.pool l.scores l.pool × (16 * l.row ≤ length l.bits + 15)

abbrev pub decreases-rows : goal.decreases-rows
decreases-rows l = length l.bits - 16 * l.row
