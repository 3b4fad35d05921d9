use Rattle.shared_lemmas.proofs.Common.{arith, nat_tests}
use Rattle.jass_base.proofs.GapBytes.{groups_begin}
use Rattle.jass_base.proofs.gap.spelled.Goals as goal

pub returns : goal.returns
returns c =
    groups_begin c.args.gap c.from.result c.from-2.result c.from-3.result c.requires
    (λ low. grind (arith, nat_tests, c.from.ensures)) (λ high. grind (arith, nat_tests, c.from.ensures))
    (λ low. grind (arith, nat_tests, c.from-2.ensures)) (λ high. grind (arith, nat_tests, c.from-2.ensures))
    (λ low. grind (arith, nat_tests, c.from-3.ensures)) (λ high. grind (arith, nat_tests, c.from-3.ensures))
