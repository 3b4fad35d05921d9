use Rattle.shared_lemmas.proofs.Common.{arith}
use Rattle.sharp_bounds.proofs.Marks.{weight_next, none_behind_all}
use Rattle.sharp_bounds.proofs.unseen.unseen_sum.Goals as goal

pub loop-place-preserved : goal.loop-place-preserved
loop-place-preserved c = (
  omega (arith, c.loop-place.invariant.0, c.unseen_weight-sum.ensures.small),
  omega (arith, weight_next c.args.mask c.loop-place.place c.args.weights.now (omega (arith, c.loop-place-test.true)), c.unseen_weight-sum.ensures.weight, c.loop-place.invariant.1),
)

pub returns : goal.returns
returns c = omega (arith, none_behind_all c.args.mask c.loop-place.place c.args.weights.now (omega (arith, c.loop-place-test.false)), c.loop-place.invariant.1)
