use Rattle.std.proofs.Common.{◌≡◌, ◌+◌, ◌-◌, arith}
use Rattle.shared_lemmas.proofs.Numbers.{value_small}
use Rattle.jass_base.proofs.GapGroups.{first_inside, one_byte, known_begins, after_one, after_two, after_three, inside_at, known_at, last_small}
use Rattle.jass_base.proofs.gap.known_gap.Goals as goal

pub bounds-bytes-at : goal.bounds-bytes-at
bounds-bytes-at c = first_inside c.args.bytes.now c.args.at c.requires

pub returns-then-first-lt128-clause-value : goal.returns-then-first-lt128-clause-value
returns-then-first-lt128-clause-value c =
    let within = first_inside c.args.bytes.now c.args.at c.requires in
    let size : c.args.at + 1 - c.args.at ≡ 1 = omega arith in
    rw (size, c.from-first.ensures) (one_byte c.args.bytes.now c.args.at within (omega (arith, c.from-first.ensures, c.if-first-lt128.true)))

pub returns-then-first-lt128-clause-within : goal.returns-then-first-lt128-clause-within
returns-then-first-lt128-clause-within c = omega (arith, first_inside c.args.bytes.now c.args.at c.requires)

pub bounds-bytes-at-2 : goal.bounds-bytes-at-2
bounds-bytes-at-2 c =
    let gap = known_begins c.args.bytes.now c.args.at c.requires (λ i. omega (arith, c.type_inv.bytes i)) c.from-first.ensures c.if-first-lt128.false in
    inside_at gap (after_one gap) c.requires (omega arith)

pub returns-then-second-lt128-clause-value : goal.returns-then-second-lt128-clause-value
returns-then-second-lt128-clause-value c =
    let gap = known_begins c.args.bytes.now c.args.at c.requires (λ i. omega (arith, c.type_inv.bytes i)) c.from-first.ensures c.if-first-lt128.false in
    known_at gap (after_one gap) c.requires c.from-second.result _ (omega arith) c.from-second.ensures c.if-second-lt128.true (omega arith)

pub returns-then-second-lt128-clause-within : goal.returns-then-second-lt128-clause-within
returns-then-second-lt128-clause-within c =
    let gap = known_begins c.args.bytes.now c.args.at c.requires (λ i. omega (arith, c.type_inv.bytes i)) c.from-first.ensures c.if-first-lt128.false in
    omega (arith, inside_at gap (after_one gap) c.requires (omega arith))

pub bounds-bytes-at-3 : goal.bounds-bytes-at-3
bounds-bytes-at-3 c =
    let gap = known_begins c.args.bytes.now c.args.at c.requires (λ i. omega (arith, c.type_inv.bytes i)) c.from-first.ensures c.if-first-lt128.false in
    let two = after_two gap c.from-second.result (inside_at gap (after_one gap) c.requires (omega arith)) c.from-second.ensures c.if-second-lt128.false in
    inside_at gap two c.requires (omega arith)

pub returns-then-third-lt128-clause-value : goal.returns-then-third-lt128-clause-value
returns-then-third-lt128-clause-value c =
    let gap = known_begins c.args.bytes.now c.args.at c.requires (λ i. omega (arith, c.type_inv.bytes i)) c.from-first.ensures c.if-first-lt128.false in
    let two = after_two gap c.from-second.result (inside_at gap (after_one gap) c.requires (omega arith)) c.from-second.ensures c.if-second-lt128.false in
    known_at gap two c.requires c.from-third.result _ (omega arith) c.from-third.ensures c.if-third-lt128.true (omega arith)

pub returns-then-third-lt128-clause-within : goal.returns-then-third-lt128-clause-within
returns-then-third-lt128-clause-within c =
    let gap = known_begins c.args.bytes.now c.args.at c.requires (λ i. omega (arith, c.type_inv.bytes i)) c.from-first.ensures c.if-first-lt128.false in
    let two = after_two gap c.from-second.result (inside_at gap (after_one gap) c.requires (omega arith)) c.from-second.ensures c.if-second-lt128.false in
    omega (arith, inside_at gap two c.requires (omega arith))

pub bounds-bytes-at-4 : goal.bounds-bytes-at-4
bounds-bytes-at-4 c =
    let gap = known_begins c.args.bytes.now c.args.at c.requires (λ i. omega (arith, c.type_inv.bytes i)) c.from-first.ensures c.if-first-lt128.false in
    let two = after_two gap c.from-second.result (inside_at gap (after_one gap) c.requires (omega arith)) c.from-second.ensures c.if-second-lt128.false in
    let three = after_three gap c.from-second.result c.from-third.result (inside_at gap two c.requires (omega arith)) c.from-second.ensures c.if-second-lt128.false
    c.from-third.ensures c.if-third-lt128.false in
    inside_at gap three c.requires (omega arith)

pub returns-clause-value : goal.returns-clause-value
returns-clause-value c =
    let gap = known_begins c.args.bytes.now c.args.at c.requires (λ i. omega (arith, c.type_inv.bytes i)) c.from-first.ensures c.if-first-lt128.false in
    let two = after_two gap c.from-second.result (inside_at gap (after_one gap) c.requires (omega arith)) c.from-second.ensures c.if-second-lt128.false in
    let three = after_three gap c.from-second.result c.from-third.result (inside_at gap two c.requires (omega arith)) c.from-second.ensures c.if-second-lt128.false
    c.from-third.ensures c.if-third-lt128.false in
    let last = last_small gap three c.requires c.from-fourth.result (omega arith) c.from-fourth.ensures in
    known_at gap three c.requires c.from-fourth.result _ (omega arith) c.from-fourth.ensures last (omega arith)

pub returns-clause-limit : goal.returns-clause-limit
returns-clause-limit c =
    let gap = known_begins c.args.bytes.now c.args.at c.requires (λ i. omega (arith, c.type_inv.bytes i)) c.from-first.ensures c.if-first-lt128.false in
    let two = after_two gap c.from-second.result (inside_at gap (after_one gap) c.requires (omega arith)) c.from-second.ensures c.if-second-lt128.false in
    let three = after_three gap c.from-second.result c.from-third.result (inside_at gap two c.requires (omega arith)) c.from-second.ensures c.if-second-lt128.false
    c.from-third.ensures c.if-third-lt128.false in
    let last = last_small gap three c.requires c.from-fourth.result (omega arith) c.from-fourth.ensures in
    value_small _ c.from-fourth.result 2097152 three.below last

pub returns-clause-within : goal.returns-clause-within
returns-clause-within c =
    let gap = known_begins c.args.bytes.now c.args.at c.requires (λ i. omega (arith, c.type_inv.bytes i)) c.from-first.ensures c.if-first-lt128.false in
    let two = after_two gap c.from-second.result (inside_at gap (after_one gap) c.requires (omega arith)) c.from-second.ensures c.if-second-lt128.false in
    let three = after_three gap c.from-second.result c.from-third.result (inside_at gap two c.requires (omega arith)) c.from-second.ensures c.if-second-lt128.false
    c.from-third.ensures c.if-third-lt128.false in
    omega (arith, inside_at gap three c.requires (omega arith))

pub overflow_add-result : goal.overflow_add-result
overflow_add-result c = grind (arith, first_inside c.args.bytes.now c.args.at c.requires)
