use Rattle.std.proofs.Common.{◌∙◌, sym, arith}
use Rattle.run_audit.proofs.Steps.{kept_step, broken_step, last_step}
use Rattle.run_audit.proofs.grading.order_stays.Goals as goal

pub loop-next-preserved : goal.loop-next-preserved
loop-next-preserved c = (omega arith, kept_step c.args.bound c.args.hits.now (record { doc = 0; score = 0 }) c.loop-next.next c.loop-next.invariant.0 c.loop-next-test.true c.loop-next.invariant.1 (sym c.stays_before.ensures ∙ c.if-not-stays_before.false))

pub returns : goal.returns
returns c = last_step c.args.bound c.args.hits.now c.loop-next.next c.loop-next.invariant.0 c.loop-next-test.false c.loop-next.invariant.1

pub returns-then-not-stays_before : goal.returns-then-not-stays_before
returns-then-not-stays_before c = broken_step c.args.bound c.args.hits.now (record { doc = 0; score = 0 }) c.loop-next.next c.loop-next.invariant.0 c.loop-next-test.true c.loop-next.invariant.1 (sym c.stays_before.ensures ∙ c.if-not-stays_before.true)
