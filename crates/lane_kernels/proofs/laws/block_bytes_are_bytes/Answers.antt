use Rattle.std.proofs.Common.{◌*◌}
use Rattle.lane_kernels.specs.Block.{block_byte}
use Rattle.lane_kernels.proofs.Bits.{length-list_of}
use Rattle.lane_kernels.proofs.Packed.{bytes_below}
use Rattle.lane_kernels.proofs.laws.block_bytes_are_bytes.Goals as goal

pub returns-clause-count : goal.returns-clause-count
returns-clause-count c = λ values width. length-list_of (block_byte values width) (16 * width)

pub returns-clause-below : goal.returns-clause-below
returns-clause-below c = bytes_below
