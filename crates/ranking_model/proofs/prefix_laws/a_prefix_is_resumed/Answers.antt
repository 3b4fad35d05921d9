use Rattle.ranking_model.proofs.Growing.{resumed, size_split}
use Rattle.ranking_model.proofs.prefix_laws.a_prefix_is_resumed.Goals as goal

pub returns-clause-size : goal.returns-clause-size
returns-clause-size c = size_split

pub returns-clause-prefix : goal.returns-clause-prefix
returns-clause-prefix c = resumed
