use Rattle.weights.proofs.Ranges.{range_of-least, range_of-greatest, range_of-least_among, range_of-greatest_among, range_of-permutation}
use Rattle.weights.proofs.laws.ranges_end_at_weights.Goals as goal

pub returns-clause-from_least : goal.returns-clause-from_least
returns-clause-from_least c = range_of-least

pub returns-clause-to_greatest : goal.returns-clause-to_greatest
returns-clause-to_greatest c = range_of-greatest

pub returns-clause-least : goal.returns-clause-least
returns-clause-least c = range_of-least_among

pub returns-clause-greatest : goal.returns-clause-greatest
returns-clause-greatest c = range_of-greatest_among

pub returns-clause-any_order : goal.returns-clause-any_order
returns-clause-any_order c = range_of-permutation
