use Rattle.std.proofs.Common.{◌≡◌, ◌*◌, sum, take}
use Rattle.lane_kernels.proofs.gaps.sum128.Given as goal
use lib.Lanes.{sum_l}

abbrev pub invariant-loop-row : goal.invariant-loop-row
invariant-loop-row l = sum_l l.sums ≡ sum (take (4 * l.row) l.gaps)
