use Rattle.std.proofs.Common.{◌∙◌}
use Rattle.weights.proofs.Exponents.{lg-computed, lg-is}
use Rattle.weights.proofs.logarithm.lg.Goals as goal

pub returns-clause-value : goal.returns-clause-value
returns-clause-value c =
    lg-computed c.args.x c.ilog2-exponent.result c.from-above.result c.ranges.x.fits c.ilog2-exponent.ensures.bound
    c.ilog2-exponent.ensures.power_le c.ilog2-exponent.ensures.next_power_gt c.from-above.ensures

pub returns-clause-formula : goal.returns-clause-formula
returns-clause-formula c =
    λ e low high.
    lg-computed c.args.x c.ilog2-exponent.result c.from-above.result c.ranges.x.fits c.ilog2-exponent.ensures.bound
    c.ilog2-exponent.ensures.power_le c.ilog2-exponent.ensures.next_power_gt c.from-above.ensures
    ∙ lg-is c.args.x e c.ranges.x.fits low high
