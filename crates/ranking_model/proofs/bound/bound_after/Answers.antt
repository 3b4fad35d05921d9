use Rattle.std.proofs.Common.{arith}
use Rattle.ranking_model.proofs.Totals.{bound_step}
use Rattle.ranking_model.proofs.bound.bound_after.Goals as goal

pub overflow_add-bound : goal.overflow_add-bound
overflow_add-bound c = omega (
  arith,
  (bound_step c.args.plan.now.segments c.as_slice.result.now c.args.count c.loop-term_place.term_place c.args.plan.now.terms c.loop-term_place.bound c.greatest_weight-bound.result
      c.as_slice.ensures c.loop-term_place-test.true c.loop-term_place.invariant c.greatest_weight-bound.ensures c.requires.fits).1,
)

pub loop-term_place-preserved : goal.loop-term_place-preserved
loop-term_place-preserved c = (bound_step c.args.plan.now.segments c.as_slice.result.now c.args.count c.loop-term_place.term_place c.args.plan.now.terms c.loop-term_place.bound c.greatest_weight-bound.result
    c.as_slice.ensures c.loop-term_place-test.true c.loop-term_place.invariant c.greatest_weight-bound.ensures c.requires.fits).0
