use Rattle.std.proofs.Common.{refl, arith}
use Rattle.jass_base.proofs.GapGroups.{begins, after_one, after_two, after_three, long_at, cut_at, zero_at, ends_at}
use Rattle.jass_base.proofs.gap.read_groups.Goals.{then-fourth-eq0-via-then-fourth-eq0, then-fourth-eq0-via-else-fourth-eq0+then-fourth-ge128}
use Rattle.jass_base.proofs.gap.read_groups.Goals as goal

pub returns-then-left-lt2-clause-fault : goal.returns-then-left-lt2-clause-fault
returns-then-left-lt2-clause-fault c =
    let gap = begins c.args.bytes.now c.args.at c.requires.within (λ i. omega (arith, c.type_inv.bytes i)) c.from-first.ensures (omega (arith, c.requires.more, c.from-first.ensures)) in
    cut_at gap (after_one gap) (omega arith) (omega (arith, c.if-left-lt2.true))

pub returns-then-second-eq0-clause-fault : goal.returns-then-second-eq0-clause-fault
returns-then-second-eq0-clause-fault c =
    let gap = begins c.args.bytes.now c.args.at c.requires.within (λ i. omega (arith, c.type_inv.bytes i)) c.from-first.ensures (omega (arith, c.requires.more, c.from-first.ensures)) in
    zero_at gap (after_one gap) c.from-second.result (omega arith) (omega (arith, c.if-left-lt2.false)) c.from-second.ensures c.if-second-eq0.true

pub returns-then-second-lt128-clause-value : goal.returns-then-second-lt128-clause-value
returns-then-second-lt128-clause-value c =
    let gap = begins c.args.bytes.now c.args.at c.requires.within (λ i. omega (arith, c.type_inv.bytes i)) c.from-first.ensures (omega (arith, c.requires.more, c.from-first.ensures)) in
    ends_at gap (after_one gap) c.from-second.result _ (omega arith) (omega (arith, c.if-left-lt2.false)) c.from-second.ensures c.if-second-eq0.false c.if-second-lt128.true (omega arith)

pub returns-then-left-lt3-clause-fault : goal.returns-then-left-lt3-clause-fault
returns-then-left-lt3-clause-fault c =
    let gap = begins c.args.bytes.now c.args.at c.requires.within (λ i. omega (arith, c.type_inv.bytes i)) c.from-first.ensures (omega (arith, c.requires.more, c.from-first.ensures)) in
    let two = after_two gap c.from-second.result (omega (arith, c.if-left-lt2.false)) c.from-second.ensures c.if-second-lt128.false in
    cut_at gap two (omega arith) (omega (arith, c.if-left-lt3.true))

pub returns-then-third-eq0-clause-fault : goal.returns-then-third-eq0-clause-fault
returns-then-third-eq0-clause-fault c =
    let gap = begins c.args.bytes.now c.args.at c.requires.within (λ i. omega (arith, c.type_inv.bytes i)) c.from-first.ensures (omega (arith, c.requires.more, c.from-first.ensures)) in
    let two = after_two gap c.from-second.result (omega (arith, c.if-left-lt2.false)) c.from-second.ensures c.if-second-lt128.false in
    zero_at gap two c.from-third.result (omega arith) (omega (arith, c.if-left-lt3.false)) c.from-third.ensures c.if-third-eq0.true

pub returns-then-third-lt128-clause-value : goal.returns-then-third-lt128-clause-value
returns-then-third-lt128-clause-value c =
    let gap = begins c.args.bytes.now c.args.at c.requires.within (λ i. omega (arith, c.type_inv.bytes i)) c.from-first.ensures (omega (arith, c.requires.more, c.from-first.ensures)) in
    let two = after_two gap c.from-second.result (omega (arith, c.if-left-lt2.false)) c.from-second.ensures c.if-second-lt128.false in
    ends_at gap two c.from-third.result _ (omega arith) (omega (arith, c.if-left-lt3.false)) c.from-third.ensures c.if-third-eq0.false c.if-third-lt128.true (omega arith)

pub returns-then-left-lt4-clause-fault : goal.returns-then-left-lt4-clause-fault
returns-then-left-lt4-clause-fault c =
    let gap = begins c.args.bytes.now c.args.at c.requires.within (λ i. omega (arith, c.type_inv.bytes i)) c.from-first.ensures (omega (arith, c.requires.more, c.from-first.ensures)) in
    let three = after_three gap c.from-second.result c.from-third.result (omega (arith, c.if-left-lt3.false)) c.from-second.ensures c.if-second-lt128.false c.from-third.ensures c.if-third-lt128.false in
    cut_at gap three (omega arith) (omega (arith, c.if-left-lt4.true))

pub returns-then-fourth-eq0-clause-fault : goal.returns-then-fourth-eq0-clause-fault
returns-then-fourth-eq0-clause-fault c =
    let gap = begins c.args.bytes.now c.args.at c.requires.within (λ i. omega (arith, c.type_inv.bytes i)) c.from-first.ensures (omega (arith, c.requires.more, c.from-first.ensures)) in
    let three = after_three gap c.from-second.result c.from-third.result (omega (arith, c.if-left-lt3.false)) c.from-second.ensures c.if-second-lt128.false c.from-third.ensures c.if-third-lt128.false in
    elim c.then-fourth-eq0.branch [
      | then-fourth-eq0-via-then-fourth-eq0 w ↦ zero_at gap three c.from-fourth.result (omega arith) (omega (arith, c.if-left-lt4.false)) c.from-fourth.ensures w.if-fourth-eq0.true
      | then-fourth-eq0-via-else-fourth-eq0+then-fourth-ge128 w ↦ long_at gap three c.from-fourth.result refl (omega (arith, c.if-left-lt4.false)) c.from-fourth.ensures w.if-fourth-ge128.true
    ]

pub returns-clause-value : goal.returns-clause-value
returns-clause-value c =
    let gap = begins c.args.bytes.now c.args.at c.requires.within (λ i. omega (arith, c.type_inv.bytes i)) c.from-first.ensures (omega (arith, c.requires.more, c.from-first.ensures)) in
    let three = after_three gap c.from-second.result c.from-third.result (omega (arith, c.if-left-lt3.false)) c.from-second.ensures c.if-second-lt128.false c.from-third.ensures c.if-third-lt128.false in
    ends_at gap three c.from-fourth.result _ (omega arith) (omega (arith, c.if-left-lt4.false)) c.from-fourth.ensures c.if-fourth-eq0.false c.if-fourth-ge128.false (omega arith)
