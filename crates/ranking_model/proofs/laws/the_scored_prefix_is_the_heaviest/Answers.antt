use Rattle.ranking_model.proofs.Parting.{heaviest}
use Rattle.ranking_model.proofs.laws.the_scored_prefix_is_the_heaviest.Goals as goal

pub returns : goal.returns
returns c = heaviest
