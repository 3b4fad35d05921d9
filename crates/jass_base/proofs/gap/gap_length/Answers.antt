use Rattle.shared_lemmas.proofs.Common.{arith, nat_tests}
use Rattle.jass_base.proofs.GapBytes.{length_sum}
use Rattle.jass_base.proofs.gap.gap_length.Goals as goal

pub returns-clause-is : goal.returns-clause-is
returns-clause-is c =
    length_sum c.args.gap c.from.result c.from-2.result c.from-3.result c.from-4.result (omega (arith, c.ranges.gap))
    (λ low. grind (arith, nat_tests, c.from.ensures)) (λ high. grind (arith, nat_tests, c.from.ensures))
    (λ low. grind (arith, nat_tests, c.from-2.ensures)) (λ high. grind (arith, nat_tests, c.from-2.ensures))
    (λ low. grind (arith, nat_tests, c.from-3.ensures)) (λ high. grind (arith, nat_tests, c.from-3.ensures))
    (λ low. grind (arith, nat_tests, c.from-4.ensures)) (λ high. grind (arith, nat_tests, c.from-4.ensures))
