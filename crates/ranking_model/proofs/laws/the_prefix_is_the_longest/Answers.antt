use Rattle.ranking_model.proofs.Parting.{prefix_fits, prefix_there, prefix_longest}
use Rattle.ranking_model.proofs.laws.the_prefix_is_the_longest.Goals as goal

pub returns-clause-fits : goal.returns-clause-fits
returns-clause-fits c = prefix_fits

pub returns-clause-there : goal.returns-clause-there
returns-clause-there c = prefix_there

pub returns-clause-longest : goal.returns-clause-longest
returns-clause-longest c = prefix_longest
