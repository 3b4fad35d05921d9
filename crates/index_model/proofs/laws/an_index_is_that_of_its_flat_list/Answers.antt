use Rattle.index_model.proofs.Groups.{index_again}
use Rattle.index_model.proofs.laws.an_index_is_that_of_its_flat_list.Goals as goal

pub returns : goal.returns
returns c = index_again
