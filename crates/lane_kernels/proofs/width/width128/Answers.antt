use Rattle.lane_kernels.proofs.Widths.{small_from_reads, union_least, union_holds, union_width}
use Rattle.lane_kernels.proofs.width.width128.Goals as goal

pub returns-clause-value : goal.returns-clause-value
returns-clause-value c = union_width c.args.values.now c.union128.result (small_from_reads c.args.values.now c.fits-values) c.union128.ensures

pub returns-clause-holds : goal.returns-clause-holds
returns-clause-holds c = union_holds c.args.values.now c.union128.result (small_from_reads c.args.values.now c.fits-values) c.union128.ensures

pub returns-clause-least : goal.returns-clause-least
returns-clause-least c = union_least c.args.values.now c.union128.result (small_from_reads c.args.values.now c.fits-values) c.union128.ensures
