use Rattle.weights.proofs.Limits.{impact_of-rises, impact_of-greatest}
use Rattle.weights.proofs.laws.impacts_follow_weights.Goals as goal

pub returns-clause-rises : goal.returns-clause-rises
returns-clause-rises c = impact_of-rises

pub returns-clause-greatest : goal.returns-clause-greatest
returns-clause-greatest c = impact_of-greatest
