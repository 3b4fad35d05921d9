use Rattle.lane_kernels.specs.Width.{least_width}
use Rattle.lane_kernels.proofs.Widths.{All-from_below, below_from_All, least_width_holds, least_width_least}
use Rattle.lane_kernels.proofs.laws.least_width_is_least.Goals as goal

pub returns-clause-holds : goal.returns-clause-holds
returns-clause-holds c = λ values small.
    All-from_below (least_width values) values (least_width_holds values (below_from_All 32 values small))

pub returns-clause-least : goal.returns-clause-least
returns-clause-least c = λ values width small below.
    least_width_least values width (below_from_All 32 values small) (below_from_All width values below)
