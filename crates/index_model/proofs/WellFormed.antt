-- An index is well formed: it keeps the limits but that on its terms.
use Rattle.shared_lemmas.proofs.Common.{List, All, AllByRecursion, recursion_from_All}
use Rattle.shared_lemmas.proofs.Lists.{all_weaker}
use Rattle.index_model.specs.Index.{IndexData, IsIndex, IsWellFormed}

pub well_formed : (index : IndexData) → IsIndex index → IsWellFormed index
well_formed index is = record { few_names = is.few_names; names = is.names; names_are_text = is.names_are_text; rising = is.rising; terms = is.terms }

pub all_well_formed : (parts : List IndexData) → All IsIndex parts → AllByRecursion IsWellFormed parts
all_well_formed parts are = all_weaker IsIndex IsWellFormed well_formed parts (recursion_from_All IsIndex parts are)
