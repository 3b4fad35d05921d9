use Rattle.ranking_model.specs.Plan.{plan_of}
use Rattle.sharp_bounds.proofs.Reaching.{plan_once}
use Rattle.sharp_bounds.proofs.Sharp.{later_within, falling}
use Rattle.sharp_bounds.proofs.laws.later_scores_are_within_reach.Goals as goal

pub returns-clause-gains : goal.returns-clause-gains
returns-clause-gains c = λ docs n m flat terms is more. later_within n m (plan_of docs flat terms) (plan_once docs flat terms is) more

pub returns-clause-reach : goal.returns-clause-reach
returns-clause-reach c = λ docs n m flat terms is more. falling n m (plan_of docs flat terms) (plan_once docs flat terms is) more
