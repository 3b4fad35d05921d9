use Rattle.index_model.proofs.WellFormed.{well_formed}
use Rattle.index_model.proofs.laws.indexes_are_well_formed.Goals as goal

pub returns : goal.returns
returns c = well_formed
