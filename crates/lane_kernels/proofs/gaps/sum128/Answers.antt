use Rattle.std.proofs.Common.{◌*◌, ◌∙◌, sum, take, ap, arith}
use Rattle.lane_kernels.proofs.Sums.{sums_fit, sums_more, total_fits, total_is}
use Rattle.lane_kernels.proofs.gaps.sum128.Goals as goal

pub overflow_add-sums : goal.overflow_add-sums
overflow_add-sums c =
    sums_fit c.args.gaps.now c.loop-row.sums (4 * c.loop-row.row) c.told-gaps c.fits-gaps c.loop-row.invariant c.load.result c.load.ensures.lanes

pub loop-row-preserved : goal.loop-row-preserved
loop-row-preserved c =
    sums_more c.args.gaps.now c.loop-row.sums (4 * c.loop-row.row) c.told-gaps c.fits-gaps c.loop-row.invariant c.load.result c.load.ensures.lanes
    c.loop-row.auto.sums.0 c.load.ensures.four
    ∙ ap (λ i. sum (take i c.args.gaps.now)) (omega arith)

pub overflow_add-result : goal.overflow_add-result
overflow_add-result c = total_fits c.args.gaps.now c.loop-row.sums (4 * c.loop-row.row) c.told-gaps c.fits-gaps c.loop-row.invariant

pub returns : goal.returns
returns c =
    let all = total_is c.args.gaps.now c.loop-row.sums (4 * c.loop-row.row) c.told-gaps c.fits-gaps c.loop-row.invariant (omega arith) in
    record { value = all.0; small = all.1 }
