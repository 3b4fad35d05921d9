use Rattle.std.proofs.Common.{◌∙◌, sym, arith, slice_index}
use Rattle.sharp_search.specs.Deciding.{limits_of}
use Rattle.sharp_search.proofs.Entering.{kept_step, broken_step, last_step}
use Rattle.sharp_search.proofs.deciding.order_stays.Goals as goal

pub loop-next-preserved : goal.loop-next-preserved
loop-next-preserved c = (omega arith, kept_step (slice_index (limits_of c.args.masks.now.masks c.args.weights.now)) c.args.hits.now (record { doc = 0; score = 0 }) c.loop-next.next c.limit_of-limit.result c.loop-next.invariant.0 c.loop-next-test.true c.loop-next.invariant.1 c.limit_of-limit.ensures (sym c.stays_before.ensures ∙ c.if-not-stays_before.false))

pub returns : goal.returns
returns c = last_step (slice_index (limits_of c.args.masks.now.masks c.args.weights.now)) c.args.hits.now c.loop-next.next c.loop-next.invariant.0 c.loop-next-test.false c.loop-next.invariant.1

pub returns-then-not-stays_before : goal.returns-then-not-stays_before
returns-then-not-stays_before c = broken_step (slice_index (limits_of c.args.masks.now.masks c.args.weights.now)) c.args.hits.now (record { doc = 0; score = 0 }) c.loop-next.next c.limit_of-limit.result c.loop-next.invariant.0 c.loop-next-test.true c.loop-next.invariant.1 c.limit_of-limit.ensures (sym c.stays_before.ensures ∙ c.if-not-stays_before.true)
