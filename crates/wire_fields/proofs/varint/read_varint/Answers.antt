use Rattle.std.proofs.Common.{refl, arith}
use Rattle.wire_fields.proofs.Varints.{one_byte, no_byte}
use Rattle.wire_fields.proofs.varint.read_varint.Goals as goal

pub returns-then-at-bytes : goal.returns-then-at-bytes
returns-then-at-bytes c = (no_byte c.args.bytes.now c.args.at c.if-at-bytes.true, refl)

pub returns-then-first-lt128 : goal.returns-then-first-lt128
returns-then-first-lt128 c = (rw c.from.ensures (one_byte c.args.bytes.now c.args.at c.if-at-bytes.false c.if-first-lt128.true), omega arith, omega arith, omega (arith, c.from.ensures, c.if-first-lt128.true))
