use Rattle.std.proofs.Common.{◌≡◌, ◌+◌, ◌-◌, suc, arith}
use Rattle.codec_simple8.proofs.Fields.{masked, sum_one, sum_small, sum_all}
use Rattle.codec_simple8.proofs.sums.sum_values.Goals as goal

pub overflow_add-sum : goal.overflow_add-sum
overflow_add-sum c =
    let most = sum_small c.args.width c.loop.rest c.loop.sum c.args.values c.loop.invariant.most in
    rw (masked c.loop.rest c.args.width c.requires) (record { fits = omega (arith, most, c.ranges.values.fits) })

pub loop-preserved : goal.loop-preserved
loop-preserved c =
    let some : c.args.count - c.loop.counter ≡ suc (c.args.count - (c.loop.counter + 1)) = omega (arith, c.loop-test.true) in
    rw (masked c.loop.rest c.args.width c.requires) (sum_one c.args.width (c.args.count - (c.loop.counter + 1)) (c.args.count - c.loop.counter) c.loop.rest c.loop.sum c.args.values _ some c.loop.invariant)

pub returns-clause-sum : goal.returns-clause-sum
returns-clause-sum c =
    let none : c.args.count - c.loop.counter ≡ 0 = omega (arith, c.loop-test.false) in
    sum_all c.args.width (c.args.count - c.loop.counter) c.loop.rest c.loop.sum c.args.values _ none c.loop.invariant
