use Rattle.ranking_model.proofs.Small.{plan_is_small}
use Rattle.ranking_model.proofs.Growing.{weighted_light}
use Rattle.ranking_model.proofs.laws.plans_are_small.Goals as goal

pub returns : goal.returns
returns c = λ docs flat terms is_flat are_terms times few. plan_is_small docs flat terms is_flat are_terms few (weighted_light docs flat terms is_flat times)
