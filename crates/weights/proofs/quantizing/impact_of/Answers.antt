use Rattle.std.proofs.Common.{◌-◌, ◌^◌, arith}
use Rattle.weights.proofs.Bounds.{place-le, steps_of}
use Rattle.weights.proofs.quantizing.impact_of.Goals as goal

pub overflow_sub-steps : goal.overflow_sub-steps
overflow_sub-steps c =
    let width = rw c.in-Of-2.is at c.requires.width in
    let steps = steps_of c.in-Of-2.b width.0 width.1 in
    rw steps.0 (omega (arith, steps.1))

pub overflow_cast-result-in-Of-2 : goal.overflow_cast-result-in-Of-2
overflow_cast-result-in-Of-2 c =
    let width = rw c.in-Of-2.is at c.requires.width in
    let steps = steps_of c.in-Of-2.b width.0 width.1 in
    let holds = rw c.in-Of-2.is at c.requires.in_range in
    rw (c.steps_to.ensures, steps.0) (omega (arith, steps.1, steps.2, place-le (c.args.w - c.args.range.least) (2 ^ c.in-Of-2.b - 2) (c.args.range.greatest - c.args.range.least) (omega (arith, holds.to_greatest))))
