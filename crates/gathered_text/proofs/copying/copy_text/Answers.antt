use Rattle.std.proofs.Common.{arith}
use Rattle.gathered_text.proofs.Moves.{two_moves}
use Rattle.gathered_text.proofs.copying.copy_text.Goals as goal

pub returns-then-len-lt8 : goal.returns-then-len-lt8
returns-then-len-lt8 c = two_moves c.args.from.now c.args.to.now c.requires 4 c.if-len-ge4.true (omega (arith, c.if-len-lt8.true))
