use Rattle.std.proofs.Common.{◌+◌, ◌-◌, ◌≡◌, arith}
use Rattle.jass_base.proofs.GapGroups.{one_byte, no_byte}
use Rattle.jass_base.proofs.gap.read_gap.Goals as goal

pub returns-then-at-bytes-clause-fault : goal.returns-then-at-bytes-clause-fault
returns-then-at-bytes-clause-fault c = no_byte c.args.bytes.now c.args.at c.if-at-bytes.true

pub returns-then-first-lt128-clause-value : goal.returns-then-first-lt128-clause-value
returns-then-first-lt128-clause-value c =
    let size : c.args.at + 1 - c.args.at ≡ 1 = omega arith in
    rw (size, c.from.ensures) (one_byte c.args.bytes.now c.args.at c.if-at-bytes.false c.if-first-lt128.true)
