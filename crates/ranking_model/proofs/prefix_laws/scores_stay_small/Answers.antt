use Rattle.ranking_model.proofs.Growing.{scores_small, part_small}
use Rattle.ranking_model.proofs.prefix_laws.scores_stay_small.Goals as goal

pub returns-clause-scores : goal.returns-clause-scores
returns-clause-scores c = scores_small

pub returns-clause-part : goal.returns-clause-part
returns-clause-part c = part_small
