use Rattle.std.proofs.Common.{arith}
use Rattle.accumulator_pages.proofs.Bits.{none_set, some_set}
use Rattle.accumulator_pages.proofs.pages.any_set.Goals as goal

pub returns-then-byte-ne0-clause-some : goal.returns-then-byte-ne0-clause-some
returns-then-byte-ne0-clause-some c =
    λ _. some_set c.args.bits.now c.loop-byte.byte-index c.loop-byte-test.true (omega (arith, c.type_inv.bits c.loop-byte.byte-index)) c.if-byte-ne0.true

pub returns-clause-none : goal.returns-clause-none
returns-clause-none c = λ _. none_set c.args.bits.now (λ k inside. c.loop-byte.invariant k (omega (arith, inside, c.loop-byte-test.false)))
