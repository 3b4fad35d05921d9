use Rattle.index_model.proofs.Views.{index_is, terms_are_those}
use Rattle.index_model.proofs.laws.indexes_in_memory_are_indexes.Goals as goal

pub returns : goal.returns
returns c = record { index = index_is; terms = terms_are_those }
