use Rattle.std.proofs.Common.{ap₂, ◌∙◌}
use Rattle.index_model.proofs.WellFormed.{well_formed}
use Rattle.index_model.specs.Grouping.{index_with}
use Rattle.index_export.proofs.Again.{export_is_flat, names_are}
use Rattle.index_export.proofs.laws.an_export_keeps_the_index.Goals as goal

pub returns : goal.returns
returns c = λ index is. ap₂ index_with (names_are index) (export_is_flat index is (c.the_flat_list_is_flat.ensures.bytes index (well_formed index is))) ∙ c.an_index_is_that_of_its_flat_list.ensures index (well_formed index is)
