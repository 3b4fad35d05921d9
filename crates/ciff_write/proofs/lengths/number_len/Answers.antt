use Rattle.std.proofs.Common.{◌≡◌, length, suc, ap, arith}
use Rattle.ciff_write.proofs.Below.{short_varint, number_spelling}
use Rattle.ciff_write.proofs.Fields.{number_some}
use Rattle.ciff_write.proofs.lengths.number_len.Goals as goal

pub returns-else-value-eq0-clause-len : goal.returns-else-value-eq0-clause-len
returns-else-value-eq0-clause-len c field small =
    let is : length (number_spelling field c.args.value) ≡ suc (length (short_varint c.args.value)) = ap length (number_some field c.args.value c.if-value-eq0.false small) in
    omega (arith, is, c.varint_len.ensures.len)
