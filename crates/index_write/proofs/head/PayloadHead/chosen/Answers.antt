use Rattle.std.proofs.Common.{arith}
use Rattle.index_write.proofs.head.PayloadHead.chosen.Goals as goal

pub overflow_cast-result : goal.overflow_cast-result
overflow_cast-result c = omega (arith, c.segments_are_small.ensures.docs c.args.d c.args.docs.now c.requires.docs)
