use Rattle.ranking_model.proofs.Rest.{later_scores}
use Rattle.ranking_model.proofs.laws.the_rest_gains_at_most_the_bound.Goals as goal

pub returns : goal.returns
returns c = λ docs n m flat terms. later_scores docs n m terms flat
