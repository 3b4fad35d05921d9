use Rattle.index_model.proofs.Regrouped.{flat_again, made_of_flat}
use Rattle.index_model.proofs.union_laws.an_index_is_made_of_any_flat_list.Goals as goal

pub returns : goal.returns
returns c = record { well_formed = made_of_flat; flat = flat_again }
