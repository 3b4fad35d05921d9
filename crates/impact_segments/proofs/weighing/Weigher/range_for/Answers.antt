-- The range of all weights holds each.
use Rattle.impact_segments.proofs.Weights.{all_in_range}
use Rattle.impact_segments.proofs.weighing.Weigher.range_for.Goals as goal

pub returns-in-Of-clause-in_range : goal.returns-in-Of-clause-in_range
returns-in-Of-clause-in_range c = all_in_range c.args.self.now.rule c.args.self.now.docs.now c.args.lists.now c.range.result c.args.bits c.in-Of.field-0 c.in-Of.is c.range.ensures.value c.range.ensures.limit
