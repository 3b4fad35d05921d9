use Rattle.std.proofs.Common.{◌*◌}
use Rattle.lane_kernels.proofs.AddedSlots.{AddedBelow}
use Rattle.lane_kernels.proofs.adding.add_where.Given as goal

abbrev pub invariant-loop-at : goal.invariant-loop-at
invariant-loop-at l = AddedBelow l.w l.from l.bits l.fn.slots l.slots l.nears (8 * l.at)
