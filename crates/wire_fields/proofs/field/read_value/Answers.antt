use Rattle.std.proofs.Common.{refl, arith, ◌+◌, ◌≤◌, length}
use Rattle.wire_fields.proofs.Fields.{eight_there, four_there}
use Rattle.wire_fields.proofs.field.read_value.Goals as goal

pub returns-else-bytes-from-lt8 : goal.returns-else-bytes-from-lt8
returns-else-bytes-from-lt8 c =
    let inside : c.args.from + 8 ≤ length c.args.bytes.now = omega arith in
    (eight_there c.args.wire c.args.bytes.now c.args.from c.in-1.is inside, omega arith, inside, refl)

pub returns-else-bytes-from-lt4 : goal.returns-else-bytes-from-lt4
returns-else-bytes-from-lt4 c =
    let inside : c.args.from + 4 ≤ length c.args.bytes.now = omega arith in
    (four_there c.args.wire c.args.bytes.now c.args.from c.in-5.is inside, omega arith, inside, refl)
