use Rattle.std.proofs.Common.{decimal, arith}
use Rattle.gathered_text.proofs.Digits.{at_most_twenty, digits_behind}
use Rattle.gathered_text.proofs.parts.put_digits.Goals as goal

pub overflow_add-end : goal.overflow_add-end
overflow_add-end c = record { fits = omega (arith, c.requires, c.digit_count.ensures, at_most_twenty c.args.number c.ranges.number.fits) }

pub write_digits-requires : goal.write_digits-requires
write_digits-requires c =
    let digits = at_most_twenty c.args.number c.ranges.number.fits in
    (omega (arith, c.digit_count.ensures), omega (arith, digits, c.digit_count.ensures, c.requires))

pub returns-clause-text : goal.returns-clause-text
returns-clause-text c = digits_behind c.args.to.now c.write_digits.new.buf (decimal c.args.number) c.args.at c.digit_count.result c.write_digits.result c.digit_count.ensures c.write_digits.ensures.start c.write_digits.ensures.written c.write_digits.ensures.before

pub returns-clause-few : goal.returns-clause-few
returns-clause-few c = omega (arith, c.digit_count.ensures, at_most_twenty c.args.number c.ranges.number.fits)
