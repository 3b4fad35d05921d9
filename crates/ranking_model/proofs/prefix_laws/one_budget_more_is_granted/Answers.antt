use Rattle.ranking_model.proofs.Growing.{grant_added}
use Rattle.ranking_model.proofs.prefix_laws.one_budget_more_is_granted.Goals as goal

pub returns : goal.returns
returns c = grant_added
