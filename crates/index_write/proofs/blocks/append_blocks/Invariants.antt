use Rattle.std.proofs.Common.{take}
use Rattle.index_write.specs.Private.Blocks.{joined}
use Rattle.index_write.proofs.Sending.{AppendsTo}
use Rattle.index_write.proofs.blocks.append_blocks.Given as goal

abbrev pub invariant-loop-block : goal.invariant-loop-block
invariant-loop-block g l = AppendsTo g.C.Cabinet l.name l.fn.files l.files l.failed l.lost (joined (take l.block-index l.block-items))
