use Rattle.lane_kernels.proofs.AddedLanes.{marks_low, marks_high}
use Rattle.lane_kernels.proofs.adding.marks_of.Goals as goal

pub returns-clause-low : goal.returns-clause-low
returns-clause-low c = marks_low c.args.byte c.from-lanes.result c.from-lanes.ensures

pub returns-clause-high : goal.returns-clause-high
returns-clause-high c = marks_high c.args.byte c.from-lanes.result c.from-lanes.ensures
