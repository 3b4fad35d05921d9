-- What is made of a list that is read again, or of postings that were kept.
use Rattle.std.proofs.Common.{◌≡◌, ◌<◌, ◌≤◌, ℕ, List, [], All, arith, length, Option, Result, ap, subst, sym, ◌∙◌}
use Rattle.std.proofs.lemmas.Str.{IsUtf8-nil}
use Rattle.index_import.proofs.Below.{FitsList, HasDocsBelow, ListData, docs_of, list_data, Files, ForContent, Posting, PostingsList, SegmentData, Bits, Range, CiffFault, for_one}
use Rattle.impact_segments.proofs.OneList.{of_list}
use Rattle.impact_segments.specs.OneList.{ArePostingsOf}
use Rattle.index_import.specs.Private.Outlining.{list_there}
use Rattle.index_import.specs.Private.Rereading.{MakesOf, MakesSegments}
use Rattle.index_import.specs.Private.Surveying.{AreOfList, HoldsMost, KeepsAll, entry_postings}
use Rattle.index_import.specs.declared.list_entry.ListEntry.{ListEntry}
use Rattle.index_import.specs.declared.weighing.Weighing.{Weighing}
use Rattle.index_import.proofs.Ready.{list_there_is}

module _ (files : Option Files) (name : List ℕ) (docs : ℕ) where
  -- some postings are those of the list at a place
  abbrev pub AreThere : ℕ → List Posting → Type 0
  AreThere at postings = ForContent files name (λ content. postings ≡ (list_there content docs at).postings)

  pub read_there : (at : ℕ) (list : PostingsList) → ForContent files name (λ content. list_data list ≡ list_there content docs at) → AreThere at list.postings
  read_there at list is =
      for_one files name (λ content. list_data list ≡ list_there content docs at) (λ content. list.postings ≡ (list_there content docs at).postings)
      (λ content same. ap (λ (l : ListData). l.postings) same) is

  pub all_there : (e : ListEntry) → 1 ≤ length (entry_postings e) → ForContent files name (λ content. HoldsMost content docs e) → AreThere e.place.at (entry_postings e)
  all_there e some holds =
      for_one files name (λ content. HoldsMost content docs e) (λ content. entry_postings e ≡ (list_there content docs e.place.at).postings)
      (λ content held. held.kept some ∙ ap (λ (l : ListData). l.postings) (list_there_is content docs e.place.at held.list held.there)) holds

  -- what is made of them is made of that list
  pub made_there : (T : Type 0) (w : Weighing) (bits : Bits) (range : Range) (at : ℕ) (postings : List Posting) (segments : List SegmentData) (result : Result T CiffFault) → AreThere at postings
      → MakesOf w bits range postings segments result → ForContent files name (λ content. MakesSegments content docs w bits range at segments result)
  made_there T w bits range at postings segments result there made =
      for_one files name (λ content. postings ≡ (list_there content docs at).postings) (λ content. MakesSegments content docs w bits range at segments result)
      (λ content same. subst (λ (ps : List Posting). MakesOf w bits range ps segments result) same made) there

-- the postings that were kept of a list are those of a term
pub kept_postings : (w : Weighing) (docs : ℕ) (e : ListEntry) (postings : List Posting) → postings ≡ entry_postings e → length w.lengths.now ≡ docs → 1 ≤ length (entry_postings e) → KeepsAll docs e
    → ArePostingsOf w.lengths.now w.total postings
kept_postings w docs e postings are same some keeps =
    let of : AreOfList docs e.place.count (entry_postings e) = keeps some in
    subst (ArePostingsOf w.lengths.now w.total) (sym are) (record {
      few = w.few;
      small = w.small;
      total = w.total_is;
      some = some;
      rising = of.rising;
      below = subst (λ (n : ℕ). All (λ (doc : ℕ). doc < n) (docs_of (entry_postings e))) (sym same) of.below;
      tf = of.tf;
    })

-- a list of them has no term, and fits
abbrev pub kept_list : List Posting → ListData
kept_list postings = record { term = []; df = 0; cf = 0; postings = postings }

pub kept_list_fits : (w : Weighing) (postings : List Posting) → ArePostingsOf w.lengths.now w.total postings → FitsList (length w.lengths.now) (kept_list postings)
kept_list_fits w postings are = record {
  text = IsUtf8-nil;
  short = omega arith;
  df = omega arith;
  cf = omega arith;
  rising = are.rising;
  tf = are.tf;
  below = are.below;
}

-- and so are those of a list that is read
pub read_postings : (w : Weighing) (docs count : ℕ) (list : PostingsList) → length w.lengths.now ≡ docs → HasDocsBelow docs list → length list.postings ≡ count → 1 ≤ count → ArePostingsOf w.lengths.now w.total list.postings
read_postings w docs count list same below counted some = of_list w.lengths.now w.total list (record {
  few = w.few;
  small = w.small;
  total = w.total_is;
  some = subst (λ (n : ℕ). 1 ≤ n) (sym counted) some;
  below = subst (λ (n : ℕ). HasDocsBelow n list) (sym same) below;
})
