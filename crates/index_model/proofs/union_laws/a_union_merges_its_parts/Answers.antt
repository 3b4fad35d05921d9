use Rattle.index_model.proofs.Unioned.{union_merges}
use Rattle.index_model.proofs.WellFormed.{all_well_formed}
use Rattle.index_model.proofs.union_laws.a_union_merges_its_parts.Goals as goal

pub returns : goal.returns
returns c = λ parts are. union_merges parts (all_well_formed parts are)
