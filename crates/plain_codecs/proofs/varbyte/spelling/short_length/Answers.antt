-- A gap of documents has no fifth byte.
use Rattle.shared_lemmas.proofs.Common.{refl, arith, nat_tests}
use Rattle.jass_base.proofs.GapBytes.{length_sum}
use Rattle.plain_codecs.proofs.varbyte.spelling.short_length.Goals as goal

pub returns-clause-is : goal.returns-clause-is
returns-clause-is c =
    let sum = length_sum c.args.gap c.from.result c.from-2.result c.from-3.result 0 (omega (arith, c.ranges.gap))
    (λ low. grind (arith, nat_tests, c.from.ensures)) (λ high. grind (arith, nat_tests, c.from.ensures))
    (λ low. grind (arith, nat_tests, c.from-2.ensures)) (λ high. grind (arith, nat_tests, c.from-2.ensures))
    (λ low. grind (arith, nat_tests, c.from-3.ensures)) (λ high. grind (arith, nat_tests, c.from-3.ensures))
    (λ low. refl) (λ high. omega (arith, high, c.requires)) in
    omega (arith, sum)
