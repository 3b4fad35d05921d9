use Rattle.std.proofs.Common.{◌-◌, length, arith}
use Rattle.index_file.proofs.PlainTexts.{plain_over}
use Rattle.index_file.proofs.plain.is_plain.Goals as goal

pub returns-then-are_parts_plain : goal.returns-then-are_parts_plain
returns-then-are_parts_plain c = λ yes.
    let size = length c.args.bytes.now in
    plain_over c.args.bytes.now (size - 7) (size - 8) 8 (omega arith) (omega (arith, c.if-bytes-lt8.false))
    (c.are_parts_plain.ensures c.if-are_parts_plain.true) (c.is_part_plain.ensures yes)
