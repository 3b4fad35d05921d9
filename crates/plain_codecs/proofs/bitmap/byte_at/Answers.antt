use Rattle.std.proofs.Common.{arith}
use Rattle.plain_codecs.proofs.Bytes.{none_gathered, one_gathered, all_gathered, all_parted}
use Rattle.plain_codecs.proofs.bitmap.byte_at.Goals as goal

pub loop-at-init : goal.loop-at-init
loop-at-init c = none_gathered c.args.docs.now c.args.place c.args.first c.requires.first

pub loop-at-preserved : goal.loop-at-preserved
loop-at-preserved c = one_gathered c.args.docs.now c.args.place c.loop-at.at c.loop-at.byte c.loop-at.invariant c.loop-at-test.true c.if-docs-at.true

pub returns-else-docs-at-clause-byte : goal.returns-else-docs-at-clause-byte
returns-else-docs-at-clause-byte c = all_gathered c.args.docs.now c.args.place c.loop-at.at c.loop-at.byte c.requires.docs c.loop-at.invariant (λ inside is. c.if-docs-at.false is) (omega (arith, c.loop-at.auto.byte-fits))

pub returns-else-docs-at-clause-next : goal.returns-else-docs-at-clause-next
returns-else-docs-at-clause-next c = all_parted c.args.docs.now c.args.place c.loop-at.at c.loop-at.byte c.requires.docs c.loop-at.invariant (λ inside is. c.if-docs-at.false is)

pub returns-after-loop-at-clause-byte : goal.returns-after-loop-at-clause-byte
returns-after-loop-at-clause-byte c = all_gathered c.args.docs.now c.args.place c.loop-at.at c.loop-at.byte c.requires.docs c.loop-at.invariant (λ inside is. omega (arith, inside, c.loop-at-test.false)) (omega (arith, c.loop-at.auto.byte-fits))
