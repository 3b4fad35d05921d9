-- A list that is read again, and the segments that are made of it, or of postings that were kept.
use Rattle.std.specs.Prelude.{ℕ, ◌≡◌, ◌≤◌, ⊤, List, length, All, AllPairs, None, Result, Ok, Err}
use Rattle.std.specs.List.{sum_by}
use Rattle.jass_base.specs.Gaps.{AreDocs}
use Rattle.jass_base.specs.declared.posting.Posting.{Posting}
use Rattle.weights.specs.declared.quantizing.Bits.{Bits}
use Rattle.weights.specs.declared.quantizing.Range.{Range}
use Rattle.ciff_read.specs.declared.refusal.CiffFault.{CiffFault}
use Rattle.ciff_read.specs.declared.refusal.CiffFault.TheVariants as faults
use Rattle.impact_segments.specs.Collections.{weights_in}
use Rattle.impact_segments.specs.ListTerms.{list_segments}
use Rattle.impact_segments.specs.OneList.{outside}
use Rattle.index_model.specs.Index.{FallsTo, SegmentData, SharesNoDocument}
use Rattle.index_import.specs.Private.Outlining.{list_there}
use Rattle.index_import.specs.declared.weighing.Weighing.{Weighing}

-- the segments of a term with so many postings, of an index of so many documents
pub record AreSegments (docs count : ℕ) (segments : List SegmentData) : Type 0 where
  pub some : 1 ≤ length segments
  pub docs_are : All (λ (s : SegmentData). AreDocs docs s.docs) segments
  pub falling : AllPairs FallsTo segments
  pub once : AllPairs SharesNoDocument segments
  pub postings : sum_by (λ (s : SegmentData). length s.docs) segments ≡ count

-- the segments of the list at a place of a content
abbrev pub segments_there : List ℕ → ℕ → Weighing → Bits → Range → ℕ → List SegmentData
segments_there content docs w bits range at = list_segments w.rule w.lengths.now w.total bits range (list_there content docs at).postings

-- no weight of some postings lies outside the range
abbrev pub HasNoneOutside : Weighing → Bits → Range → List Posting → Type 0
HasNoneOutside w bits range postings = outside bits range (weights_in w.rule w.lengths.now w.total postings) ≡ None

-- postings are refused only for a weight outside the range
abbrev pub FailsOf : Weighing → Bits → Range → List Posting → CiffFault → Type 0
FailsOf w bits range postings (faults.Refused refusal) = ¬ HasNoneOutside w bits range postings
FailsOf w bits range postings fault = ⊤

-- the segments of some postings, or why there are none
abbrev pub MakesOf : {T : Type 0} → Weighing → Bits → Range → List Posting → List SegmentData → Result T CiffFault → Type 0
MakesOf w bits range postings segments (Ok done) = segments ≡ list_segments w.rule w.lengths.now w.total bits range postings
MakesOf w bits range postings segments (Err fault) = FailsOf w bits range postings fault

-- the list at a place has no weight outside the range
abbrev pub IsInside : List ℕ → ℕ → Weighing → Bits → Range → ℕ → Type 0
IsInside content docs w bits range at = HasNoneOutside w bits range (list_there content docs at).postings

-- the segments of that list, or why there are none
abbrev pub MakesSegments : {T : Type 0} → List ℕ → ℕ → Weighing → Bits → Range → ℕ → List SegmentData → Result T CiffFault → Type 0
MakesSegments content docs w bits range at segments result = MakesOf w bits range (list_there content docs at).postings segments result
