use Rattle.index_model.proofs.UnionKept.{union_well_formed}
use Rattle.index_model.proofs.WellFormed.{all_well_formed}
use Rattle.index_model.proofs.union_laws.a_union_is_well_formed.Goals as goal

pub returns : goal.returns
returns c = λ parts are few. union_well_formed parts (all_well_formed parts are) few
