-- The index file that is made of a CIFF file.
use Rattle.std.specs.Prelude.{ℕ, ◌≡◌, ◌≢◌, ◌<◌, ◌≤◌, ◌⊎◌, ⊤, List, length, take, Option, Result, Ok, Err}
use Rattle.jass_base.specs.Ciff.{CollectionData}
use Rattle.jass_base.specs.Outside.{Files, OnContent, Sets}
use Rattle.jass_base.specs.declared.answer.Totals.{Totals}
use Rattle.weights.specs.declared.weighting.Rule.{Rule}
use Rattle.weights.specs.declared.quantizing.Bits.{Bits}
use Rattle.ciff_read.specs.Reading.{read_ciff}
use Rattle.ciff_read.specs.Walk.{IsGiven, KeepsRanges, WalkView}
use Rattle.ciff_read.specs.declared.refusal.CiffWhy.{CiffWhy}
use Rattle.ciff_read.specs.declared.refusal.CiffWhy.TheVariants.{Changed}
use Rattle.impact_segments.specs.Collections.{collection_index}
use Rattle.index_model.specs.Index.{IndexData}
use Rattle.index_layout.specs.Totals.{totals_of}
use Rattle.index_layout.specs.View.{index_text}
use Rattle.index_write.specs.Saving.{LeavesPrefix}
use Rattle.index_import.specs.declared.fault.ImportFault.{ImportFault}
use Rattle.index_import.specs.declared.fault.ImportFault.TheVariants.{Refused, ReadFault, TooLarge, WriteFault, NoMemory}
use Rattle.jass_base.specs.declared.limits.TheConstants.{LONGEST_FILE}

-- nothing of the index was written, or a part of a file that fits
abbrev pub Begins : Option Files → Option Files → List ℕ → IndexData → Type 0
Begins old new index made = (new ≡ old) ⊎ ((length (index_text made) ≤ LONGEST_FILE) × ((n : ℕ) × Sets old new index (take n (index_text made))))

-- an index is that of the collection that the file of a name stands for, where its content is told
abbrev pub IsMade : Option Files → List ℕ → Rule → Bits → IndexData → Type 0
IsMade files name rule bits made = OnContent files name (λ content. (c : CollectionData) × (read_ciff content ≡ Ok c) × (made ≡ collection_index rule bits c))

-- how an index is made of a file
abbrev pub Imports : Option Files → Option Files → List ℕ → List ℕ → Rule → Bits → Result Totals ImportFault → Type 0
Imports old new name index rule bits (Ok totals) = (made : IndexData) × IsMade old name rule bits made × Sets old new index (index_text made) × (length (index_text made) ≤ LONGEST_FILE) × (totals ≡ totals_of made)
Imports old new name index rule bits (Err (Refused refusal)) = OnContent old name (λ content. read_ciff content ≡ Err refusal) × (new ≡ old)
Imports old new name index rule bits (Err ReadFault) = (new ≡ old) ⊎ ((made : IndexData) × IsMade old name rule bits made × Begins old new index made)
Imports old new name index rule bits (Err (TooLarge n)) = (made : IndexData) × IsMade old name rule bits made × (n ≡ length (index_text made)) × (LONGEST_FILE < n) × (new ≡ old)
Imports old new name index rule bits (Err WriteFault) = (made : IndexData) × IsMade old name rule bits made × (length (index_text made) ≤ LONGEST_FILE) × LeavesPrefix old new index (index_text made)
Imports old new name index rule bits (Err NoMemory) = (new ≡ old) ⊎ ((made : IndexData) × IsMade old name rule bits made × Begins old new index made)

-- a refusal for a change says two numbers that differ, and P holds of its place and of the one that was kept
abbrev pub ChangesWhere : (ℕ → ℕ → Type 0) → ℕ → CiffWhy → Type 0
ChangesWhere P at (Changed kept found) = P at kept × (kept ≢ found)
ChangesWhere P at why = ⊤

abbrev pub ImportChanges : (ℕ → ℕ → Type 0) → ImportFault → Type 0
ImportChanges P (Refused refusal) = ChangesWhere P refusal.at refusal.why
ImportChanges P ReadFault = ⊤
ImportChanges P (TooLarge n) = ⊤
ImportChanges P WriteFault = ⊤
ImportChanges P NoMemory = ⊤

-- a walk over the file of a name, within its ranges, was given a list at a place
abbrev pub WasGiven : List ℕ → ℕ → Type 0
WasGiven name at = (w : WalkView) × (w.name ≡ name) × KeepsRanges w × IsGiven w.kept at

-- a refusal for a change stands at the place of a list of the file of a name, and says two numbers that differ
abbrev pub SaysChanged : List ℕ → ImportFault → Type 0
SaysChanged name fault = ImportChanges (λ at kept. WasGiven name at) fault
