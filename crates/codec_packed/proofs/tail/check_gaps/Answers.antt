use Rattle.shared_lemmas.proofs.Common.{drop, sym, ◌∙◌, arith, rules, length-drop}
use Rattle.codec_packed.proofs.Checks.{turn_fault, turn_far, turn_read, turns_end, gaps_end, gaps_longer}
use Rattle.codec_packed.proofs.tail.check_gaps.Goals as goal

pub returns-in_err-gap : goal.returns-in_err-gap
returns-in_err-gap c =
    let known = turn_fault c.args.d c.loop-turn.next c.args.count c.loop-turn._turn c.loop-turn.place c.args.bytes.now _ (omega arith) c.loop-turn.invariant.0 c.in_err-gap.field-0.0 c.in_err-gap.ensures.fault in
    rw known (search rules)

pub returns-then-gap-d : goal.returns-then-gap-d
returns-then-gap-d c = sym (turn_far c.args.d c.loop-turn.next c.args.count c.loop-turn._turn c.loop-turn.place c.args.bytes.now _ (omega arith) c.loop-turn.invariant.0 c.in_ok-gap.gap c.in_ok-gap.behind c.in_ok-gap.ensures.value (omega (arith, c.if-gap-d.true)))

pub loop-turn-preserved : goal.loop-turn-preserved
loop-turn-preserved c = (
  turn_read c.args.d c.loop-turn.next c.args.count c.loop-turn._turn c.loop-turn.place c.args.bytes.now _ (omega arith) c.loop-turn.invariant.0 c.in_ok-gap.gap c.in_ok-gap.behind c.in_ok-gap.ensures.value c.in_ok-gap.ensures.behind (omega (arith, c.if-gap-d.false)),
  omega arith,
  c.in_ok-gap.ensures.within,
)

pub returns-then-place-bytes : goal.returns-then-place-bytes
returns-then-place-bytes c =
    let end = turns_end c.args.d c.loop-turn.next c.args.count c.loop-turn._turn c.loop-turn.place c.args.bytes.now _ (omega arith) c.loop-turn.invariant.0 in
    sym (end ∙ gaps_longer c.args.d c.loop-turn.next (drop c.loop-turn.place c.args.bytes.now) (omega (arith, length-drop c.loop-turn.place c.args.bytes.now, c.if-place-bytes.true)))

pub returns : goal.returns
returns c =
    let end = turns_end c.args.d c.loop-turn.next c.args.count c.loop-turn._turn c.loop-turn.place c.args.bytes.now _ (omega arith) c.loop-turn.invariant.0 in
    sym (end ∙ gaps_end c.args.d c.loop-turn.next (drop c.loop-turn.place c.args.bytes.now) (omega (arith, length-drop c.loop-turn.place c.args.bytes.now, c.if-place-bytes.false)))
