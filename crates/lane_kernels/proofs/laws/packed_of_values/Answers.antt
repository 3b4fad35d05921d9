use Rattle.lane_kernels.proofs.Packed.{block_of_values}
use Rattle.lane_kernels.proofs.laws.packed_of_values.Goals as goal

pub returns : goal.returns
returns c = block_of_values
