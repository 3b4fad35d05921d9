use Rattle.std.proofs.Common.{arith}
use Rattle.itoa.proofs.Decimal.{length_four}
use Rattle.gathered_text.proofs.Digits.{at_most_twenty}
use Rattle.gathered_text.proofs.digit_count.digit_count.Goals as goal

pub overflow_add-behind : goal.overflow_add-behind
overflow_add-behind c = record { fits = omega (arith, c.loop-rest.invariant, at_most_twenty c.args.number c.ranges.number.fits) }

pub loop-rest-preserved : goal.loop-rest-preserved
loop-rest-preserved c = omega (arith, c.loop-rest.invariant, length_four c.loop-rest.rest c.loop-rest-test.true c.loop-rest.auto.rest-fits.fits)

pub overflow_add-result : goal.overflow_add-result
overflow_add-result c = record { fits = omega (arith, c.loop-rest.invariant, c.digits_of_few.ensures, at_most_twenty c.args.number c.ranges.number.fits) }
