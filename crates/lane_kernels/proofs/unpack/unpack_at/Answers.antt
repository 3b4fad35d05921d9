use Rattle.std.proofs.Common.{arith}
use Rattle.lane_kernels.specs.Block.{block_value}
use Rattle.lane_kernels.proofs.Bits.{list_of_all}
use Rattle.lane_kernels.proofs.unpack.unpack_at.Goals as goal

pub returns : goal.returns
returns c = list_of_all (block_value c.args.bytes.now c.args.width) c.loop-part.out 128 c.loop-part.invariant.long (λ k h. c.loop-part.invariant.done k (omega arith))
