use Rattle.std.proofs.Common.{◌*◌, arith}
use Rattle.lane_kernels.specs.Block.{block_byte}
use Rattle.lane_kernels.proofs.Bits.{list_of_all}
use Rattle.lane_kernels.proofs.pack.pack128.Goals as goal

pub returns-else-width-gt0 : goal.returns-else-width-gt0
returns-else-width-gt0 c =
    list_of_all (block_byte c.args.values.now c.args.width) c.args.out.now (16 * c.args.width) c.requires.bytes (λ k h. absurd (omega arith))
