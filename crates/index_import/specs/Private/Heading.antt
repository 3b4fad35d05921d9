-- The heads of the lists of a file that was judged, and the terms that they belong to.
use Rattle.std.specs.Prelude.{ℕ, ◌≡◌, ◌≤◌, [], ◌∷◌, ◌++◌, List, map, All, Option, ⊤}
use Rattle.jass_base.specs.Outside.{Files, ForContent}
use Rattle.weights.specs.declared.quantizing.Bits.{Bits}
use Rattle.weights.specs.declared.quantizing.Range.{Range}
use Rattle.ciff_read.specs.declared.refusal.CiffFault.{CiffFault}
use Rattle.ciff_read.specs.declared.refusal.CiffFault.TheVariants as faults
use Rattle.index_model.specs.Index.{SegmentData, TermData}
use Rattle.index_write.specs.Chosen.{chosen_heads, chosen_terms, head_data}
use Rattle.index_write.specs.Streaming.{entry_data}
use Rattle.index_write.specs.declared.term_heads.TermHeads.{TermHeads}
use Rattle.index_import.specs.Private.Rereading.{AreSegments, IsInside, segments_there}
use Rattle.index_import.specs.declared.list_entry.ListEntry.{ListEntry}
use Rattle.index_import.specs.declared.list_entry.Place.{Place}
use Rattle.index_import.specs.declared.weighing.Weighing.{Weighing}

-- the term of an entry's list, with its segments
abbrev pub term_there : List ℕ → ℕ → Weighing → Bits → Range → ListEntry → TermData
term_there content docs w bits range e = record { term = e.term; segments = segments_there content docs w bits range e.place.at }

abbrev pub terms_there : List ℕ → ℕ → Weighing → Bits → Range → List ListEntry → List TermData
terms_there content docs w bits range lists = map (term_there content docs w bits range) lists

abbrev pub places_of : List ListEntry → List Place
places_of lists = map (λ (e : ListEntry). e.place) lists

-- the heads of some terms, which are those of the lists where the content is told
pub record AreHeads (files : Option Files) (name : List ℕ) (docs : ℕ) (w : Weighing) (bits : Bits) (range : Range) (lists : List ListEntry) (heads : List TermHeads) : Type 0 where
  pub terms : List TermData
  pub heads_are : map entry_data heads ≡ chosen_terms docs terms
  pub told : ForContent files name (λ content. terms ≡ terms_there content docs w bits range lists)

-- the heads of a list behind others: those of its segments, which are those that are there where the content is told
pub record HasOneMore (files : Option Files) (name : List ℕ) (docs : ℕ) (w : Weighing) (bits : Bits) (range : Range)
    (e : ListEntry) (before after : List TermHeads) : Type 0 where
  pub segments : List SegmentData
  pub are : AreSegments docs e.place.count segments
  pub positive : All (λ (s : SegmentData). 1 ≤ s.impact) segments
  pub told : ForContent files name (λ content. segments ≡ segments_there content docs w bits range e.place.at)
  pub own : TermHeads
  pub term : own.term ≡ e.term
  pub made : map head_data own.heads ≡ chosen_heads docs segments
  pub longer : after ≡ before ++ own ∷ []

-- a refusal comes only for a weight of one of the lists outside the range
abbrev pub AreInside : List ℕ → ℕ → Weighing → Bits → Range → List ListEntry → Type 0
AreInside content docs w bits range lists = All (λ (e : ListEntry). IsInside content docs w bits range e.place.at) lists

abbrev pub FailsAllInside : List ℕ → ℕ → Weighing → Bits → Range → List ListEntry → CiffFault → Type 0
FailsAllInside content docs w bits range lists (faults.Refused refusal) = ¬ AreInside content docs w bits range lists
FailsAllInside content docs w bits range lists fault = ⊤
