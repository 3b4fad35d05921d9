-- The norms are cut off, and so are their ends.
use Rattle.std.proofs.Common.{arith}
use Rattle.impact_segments.proofs.Unwidened.{greatest_cut, least_cut}
use Rattle.impact_segments.proofs.bounds.can_widen.Goals as goal

pub weight_at-requires-clause-norm_limit : goal.weight_at-requires-clause-norm_limit
weight_at-requires-clause-norm_limit c = greatest_cut c.args.norms.now c.args.ends c.requires.ends c.requires.cut

pub weight_at-requires-else-weight_at-range-clause-norm_limit : goal.weight_at-requires-else-weight_at-range-clause-norm_limit
weight_at-requires-else-weight_at-range-clause-norm_limit c = least_cut c.args.norms.now c.args.ends c.requires.ends c.requires.cut (omega arith)
