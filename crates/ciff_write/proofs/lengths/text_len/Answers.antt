use Rattle.std.proofs.Common.{◌≡◌, ◌≢◌, length, suc, ap, arith, length-append}
use Rattle.ciff_write.proofs.Below.{short_varint, text_spelling, sized}
use Rattle.std.proofs.lemmas.Bool.Decides.{nat_tests}
use Rattle.ciff_write.proofs.Fields.{text_some}
use Rattle.ciff_write.proofs.lengths.text_len.Goals as goal

pub returns-clause-len : goal.returns-clause-len
returns-clause-len c field small =
    let some : length c.args.text.now ≢ 0 = grind (arith, nat_tests, c.if-is_empty.ensures) in
    let is : length (text_spelling field c.args.text.now) ≡ suc (length (sized c.args.text.now)) = ap length (text_some field c.args.text.now some small) in
    omega (arith, is, c.from.ensures, c.varint_len.ensures.len, length-append (short_varint (length c.args.text.now)) c.args.text.now)
