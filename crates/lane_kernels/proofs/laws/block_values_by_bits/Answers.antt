use Rattle.lane_kernels.specs.Block.{block_value}
use Rattle.lane_kernels.proofs.Bits.{length-list_of}
use Rattle.lane_kernels.proofs.Packed.{values_below, bit_of_value}
use Rattle.lane_kernels.proofs.laws.block_values_by_bits.Goals as goal

pub returns-clause-count : goal.returns-clause-count
returns-clause-count c = λ bytes width. length-list_of (block_value bytes width) 128

pub returns-clause-below : goal.returns-clause-below
returns-clause-below c = values_below

pub returns-clause-bits : goal.returns-clause-bits
returns-clause-bits c = bit_of_value
