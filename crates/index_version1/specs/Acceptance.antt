-- What a reader answers for bytes that are a file of version 1.
use Rattle.std.specs.Prelude.{◌≡◌, ◌≢◌, ⊤, Result, Ok, Err}
use Rattle.jass_base.specs.declared.impact_index.ImpactIndex.{ImpactIndex}
use Rattle.index_model.specs.Index.{IndexData}
use Rattle.index_model.specs.Views.{index_data}
use Rattle.index_layout.specs.declared.refusal.OpenWhy.TheVariants.{Old}
use Rattle.index_layout.specs.declared.refusal.OpenFault.{OpenFault}
use Rattle.index_layout.specs.declared.refusal.OpenFault.TheVariants as faults

-- the index, unless memory is refused
abbrev pub GivesIndex : IndexData → Result ImpactIndex OpenFault → Type 0
GivesIndex wanted (Ok index) = index_data index ≡ wanted
GivesIndex wanted (Err fault) = fault ≡ faults.NoMemory

-- a refusal that isn't of an older version, or want of memory
abbrev pub IsOfVersion1 : OpenFault → Type 0
IsOfVersion1 (faults.Refused refusal) = refusal.why ≢ Old
IsOfVersion1 faults.ReadFault = ⊥
IsOfVersion1 faults.NoMemory = ⊤
