-- How an index is written that is made of a file that was judged.
use Rattle.std.specs.Prelude.{ℕ, ◌≡◌, ◌<◌, ◌≤◌, List, map, length, All, Option, Result, Ok, Err}
use Rattle.jass_base.specs.Outside.{Files, ForContent, Sets}
use Rattle.jass_base.specs.declared.answer.Totals.{Totals}
use Rattle.weights.specs.declared.quantizing.Bits.{Bits}
use Rattle.weights.specs.declared.quantizing.Range.{Range}
use Rattle.index_model.specs.Index.{IndexData, TermData}
use Rattle.index_layout.specs.Totals.{totals_of}
use Rattle.index_layout.specs.View.{index_text}
use Rattle.index_write.specs.Chosen.{chosen_terms}
use Rattle.index_write.specs.Saving.{LeavesPrefix}
use Rattle.index_write.specs.Streaming.{entry_data}
use Rattle.index_write.specs.declared.term_heads.TermHeads.{TermHeads}
use Rattle.index_import.specs.Private.Rereading.{IsInside, segments_there}
use Rattle.index_import.specs.declared.fault.ImportFault.{ImportFault}
use Rattle.index_import.specs.declared.fault.ImportFault.TheVariants.{Refused, ReadFault, TooLarge, WriteFault, NoMemory}
use Rattle.index_import.specs.declared.list_entry.Place.{Place}
use Rattle.index_import.specs.declared.weighing.Weighing.{Weighing}
use Rattle.index_import.specs.Importing.{Begins}
use Rattle.jass_base.specs.declared.limits.TheConstants.{LONGEST_FILE}

-- the terms have these heads; where the content is told their segments are those of the lists at the places
pub record HasTerms (files : Option Files) (name : List ℕ) (docs : ℕ) (w : Weighing) (bits : Bits) (range : Range) (places : List Place) (heads : List TermHeads) (terms : List TermData) : Type 0 where
  pub heads_are : map entry_data heads ≡ chosen_terms docs terms
  pub told : ForContent files name (λ content. map (λ (t : TermData). t.segments) terms ≡ map (λ (p : Place). segments_there content docs w bits range p.at) places)
  pub inside : ForContent files name (λ content. All (λ (p : Place). IsInside content docs w bits range p.at) places)

-- how an index is written that is made of the file of a name, once that was judged
abbrev pub Writes : Option Files → Option Files → List ℕ → List ℕ → IndexData → Result Totals ImportFault → Type 0
Writes old new name index made (Ok totals) = Sets old new index (index_text made) × (length (index_text made) ≤ LONGEST_FILE) × (totals ≡ totals_of made)
Writes old new name index made (Err (Refused refusal)) = ForContent old name (λ content. ⊥) × (new ≡ old)
Writes old new name index made (Err ReadFault) = Begins old new index made
Writes old new name index made (Err (TooLarge n)) = (n ≡ length (index_text made)) × (LONGEST_FILE < n) × (new ≡ old)
Writes old new name index made (Err WriteFault) = (length (index_text made) ≤ LONGEST_FILE) × LeavesPrefix old new index (index_text made)
Writes old new name index made (Err NoMemory) = Begins old new index made
