use Rattle.ranking_model.proofs.Parting.{scored, unscored, parted}
use Rattle.ranking_model.proofs.laws.the_cutoff_parts_scored_from_unscored.Goals as goal

pub returns-clause-scored : goal.returns-clause-scored
returns-clause-scored c = scored

pub returns-clause-unscored : goal.returns-clause-unscored
returns-clause-unscored c = unscored

pub returns-clause-parted : goal.returns-clause-parted
returns-clause-parted c = parted
