use Rattle.shared_lemmas.proofs.Common.{◌+◌, ◌*◌, ap, arith}
use Rattle.max_score.specs.Private.Lists.{weight_in}
use Rattle.max_score.proofs.Bounds.{score_more}
use Rattle.max_score.proofs.Marks.{neither}
use Rattle.max_score.proofs.walk.marks.Goals as goal

pub loop-list-preserved : goal.loop-list-preserved
loop-list-preserved c = λ i inside none.
    let both = neither c.loop-list.marks c.marks-marks.result i none in
    let front = c.loop-list.invariant i inside both.0 in
    let list = c.list-item.result in
    let more = score_more (c.args.from + i) c.loop-list.list-index c.args.lists.now list (omega (arith, c.loop-list-test.true)) in
    let weight = ap (weight_in (c.args.from + i)) c.list-item.is in
    let zero = ap (λ n. n * list.times) (c.marks-marks.ensures i inside both.1) in
    omega (arith, front, more, weight, zero)
