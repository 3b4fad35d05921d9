use Rattle.lane_kernels.proofs.Packed.{values_of_block}
use Rattle.lane_kernels.proofs.laws.values_of_packed.Goals as goal

pub returns : goal.returns
returns c = values_of_block
