use Rattle.lane_kernels.proofs.Running.{sums_of_is}
use Rattle.lane_kernels.proofs.gaps.running4.Goals as goal

pub returns : goal.returns
returns c = sums_of_is c.args.gaps c.requires.four c.requires.room
