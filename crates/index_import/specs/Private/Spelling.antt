-- The terms and the payloads of the lists of a file that was judged, as an index file has them.
use Rattle.std.specs.Prelude.{ℕ, ◌≡◌, ◌≤◌, [], ◌∷◌, ◌++◌, List, All, Option}
use Rattle.jass_base.specs.Outside.{Files, ForContent}
use Rattle.weights.specs.declared.quantizing.Bits.{Bits}
use Rattle.weights.specs.declared.quantizing.Range.{Range}
use Rattle.index_layout.specs.Heads.{TermHeads as EntryData}
use Rattle.index_model.specs.Index.{SegmentData, TermData}
use Rattle.index_write.specs.Chosen.{chosen_entry, chosen_payloads, chosen_terms, table_payloads}
use Rattle.index_write.specs.Spelled.{AreFew, AreSpelled, HasParts, SpelledView}
use Rattle.index_import.specs.Private.Heading.{terms_there}
use Rattle.index_import.specs.Private.Rereading.{AreSegments, segments_there}
use Rattle.index_import.specs.declared.list_entry.ListEntry.{ListEntry}
use Rattle.index_import.specs.declared.weighing.Weighing.{Weighing}

-- spelled terms and payloads are those of some terms
pub record AreOf (docs : ℕ) (view : SpelledView) (payloads : List ℕ) (terms : List TermData) : Type 0 where
  pub parts : HasParts view payloads (chosen_terms docs terms)
  pub payloads_are : payloads ≡ table_payloads docs terms

-- they are those of some terms, which are those of the lists where the content is told
pub record IsSpelling (files : Option Files) (name : List ℕ) (docs : ℕ) (w : Weighing) (bits : Bits) (range : Range) (lists : List ListEntry) (view : SpelledView) (payloads : List ℕ) : Type 0 where
  pub terms : List TermData
  pub are : AreOf docs view payloads terms
  pub told : ForContent files name (λ content. terms ≡ terms_there content docs w bits range lists)

-- a term with its heads is spelled behind any others
abbrev pub PutsTerm : SpelledView → SpelledView → EntryData → Type 0
PutsTerm before after entry =
    (entries : List EntryData) → AreSpelled before entries → AreFew (entries ++ entry ∷ [])
    → AreSpelled after (entries ++ entry ∷ [])

-- a list is spelled behind others: its segments, which are those that are there where the content is told
pub record SpellsOne (files : Option Files) (name : List ℕ) (docs : ℕ) (w : Weighing) (bits : Bits) (range : Range)
    (e : ListEntry) (before after : SpelledView) (payloads more : List ℕ) : Type 0 where
  pub segments : List SegmentData
  pub are : AreSegments docs e.place.count segments
  pub positive : All (λ (s : SegmentData). 1 ≤ s.impact) segments
  pub told : ForContent files name (λ content. segments ≡ segments_there content docs w bits range e.place.at)
  pub put : PutsTerm before after (chosen_entry docs (record { term = e.term; segments = segments }))
  pub longer : more ≡ payloads ++ chosen_payloads docs segments
