use Rattle.std.proofs.Common.{◌≡◌, length, suc, ap, sym, ◌∙◌, arith}
use Rattle.jass_base.specs.CiffText.{eight_spelling}
use Rattle.ciff_write.proofs.Fields.{eight_some}
use Rattle.ciff_write.proofs.header.average_len.Goals as goal

pub returns-else-is_zero-clause-len : goal.returns-else-is_zero-clause-len
returns-else-is_zero-clause-len c =
    let is : length (eight_spelling 7 c.args.average.now) ≡ suc (length c.args.average.now) = ap length (eight_some 7 c.args.average.now (sym c.is_zero.ensures ∙ c.if-is_zero.false) (omega arith)) in
    omega (arith, is, c.told-average)
