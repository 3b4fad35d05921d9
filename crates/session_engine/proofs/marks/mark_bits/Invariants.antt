use Rattle.shared_lemmas.proofs.Common.{◌≡◌, ◌-◌, ◌*◌, ◌+◌, ◌<◌, ◌≤◌, length, AllByRecursion}
use Rattle.lane_kernels.specs.Bitmap.{set_bits}
use Rattle.sharp_bounds.specs.Marks.{marked}
use Rattle.session_engine.proofs.BitRows.{from_row}
use Rattle.session_engine.proofs.Marking.{IsMarkedBut}
use Rattle.session_engine.proofs.marks.mark_bits.Given as goal

abbrev pub invariant-rows : goal.invariant-rows
invariant-rows l = IsMarkedBut l.place (set_bits (128 * l.first) l.bits) (from_row l.first l.bits l.row) l.fn.masks l.masks × (16 * l.row ≤ length l.bits + 15)

abbrev pub decreases-rows : goal.decreases-rows
decreases-rows l = length l.bits - 16 * l.row
