-- A range that is widened by lists that are read again, or whose postings were kept.
use Rattle.shared_lemmas.proofs.Common.{◌≡◌, ℕ, suc, ◌+◌, ◌<◌, ◌≤◌, ◌^◌, ◌||◌, Bool, false, nat_lt, nat_tests, slice_index_or, List, [], ◌∷◌, ◌++◌, fold, get_or, length, map, min, take, Option, sym, ap, ap₂, subst, ◌∙◌, arith, All, min-le_right, take-suc, length-map, map-append, All-map, All-push}
use Rattle.index_import.proofs.Below.{FitsList, ListData, Files, ForContent, LeavesWalk, WalkView, Posting, for_both, Rule, Range, empty_range, range_of, widened, length_norm, can_widen, heaviest, lightest, most_tf, least-le_start, greatest-ge_start, weights_in, widened_by, norms_in}
use Rattle.index_import.specs.Private.Outlining.{list_there}
use Rattle.index_import.specs.Private.Ranging.{CannotWiden, IsWidenedBy, widened_there}
use Rattle.index_import.specs.Private.Surveying.{HoldsMost}
use Rattle.index_import.specs.declared.list_entry.ListEntry.{ListEntry}
use Rattle.index_import.specs.declared.passed_sizes.ListSize.{ListSize}
use Rattle.index_import.specs.declared.weighing.Weighing.{Weighing}
use Rattle.index_import.proofs.Again.{told_then}
use Rattle.index_import.proofs.Ready.{list_there_is}

-- the range of the weights of the lists that were read, which fit; where the content is told it is that of all lists that entries name
pub record Widens (files : Option Files) (name : List ℕ) (docs : ℕ) (w : Weighing) (lists : List ListEntry) (range : Range) : Type 0 where
  pub read : List ListData
  pub fit : All (FitsList (length w.lengths.now)) read
  pub range_is : range ≡ widened_by w.rule w.lengths.now w.total empty_range read
  pub told : ForContent files name (λ content. range ≡ widened_there content docs w lists)

abbrev StaysInside : Type 0
StaysInside = (rule : Rule) (lengths : List ℕ) (total : ℕ) (range : Range) (l : ListData) → length lengths ≤ 2 ^ 26 → FitsList (length lengths) l → 1 ≤ length l.postings
    → can_widen rule (length lengths) (length l.postings) (most_tf l.postings) (range_of (norms_in lengths total)) range ≡ false
    → fold widened range (weights_in rule lengths total l.postings) ≡ range

abbrev OneMore : Type 0
OneMore = (rule : Rule) (lengths : List ℕ) (total : ℕ) (range : Range) (lists : List ListData) (l : ListData)
    → widened_by rule lengths total range (lists ++ l ∷ []) ≡ fold widened (widened_by rule lengths total range lists) (weights_in rule lengths total l.postings)

-- the range of one list more
module _ (one_more : OneMore) (docs : ℕ) (w : Weighing) (lists : List ListEntry) (i : ℕ) (e : ListEntry) (low : i < length lists) (is : e ≡ get_or lists i e) where
  range_more : (content : List ℕ) → widened_there content docs w (take (i + 1) lists)
      ≡ fold widened (widened_there content docs w (take i lists)) (weights_in w.rule w.lengths.now w.total (list_there content docs e.place.at).postings)
  range_more content =
      let next : i + 1 ≡ suc i = omega arith in
      let more : take (i + 1) lists ≡ take i lists ++ e ∷ [] = ap (λ (n : ℕ). take n lists) next ∙ take-suc lists i e low ∙ ap (λ (x : ListEntry). take i lists ++ x ∷ []) (sym is) in
      let there : ListEntry → ListData = λ (e : ListEntry). list_there content docs e.place.at in
      ap (widened_there content docs w) more ∙ ap (widened_by w.rule w.lengths.now w.total empty_range) (map-append there (take i lists) (e ∷ []))
      ∙ one_more w.rule w.lengths.now w.total empty_range (map there (take i lists)) (there e)

  -- a list that was read, or kept
  pub widens_more : (files : Option Files) (name : List ℕ) (range now : Range) → IsWidenedBy files name docs w e.place.at range now
      → Widens files name docs w (take i lists) range → Widens files name docs w (take (i + 1) lists) now
  widens_more files name range now by so_far =
      let list = by.list in
      let weights : ListData → List ℕ = λ (l : ListData). weights_in w.rule w.lengths.now w.total l.postings in
      record {
        read = so_far.read ++ list ∷ [];
        fit = All-push (FitsList (length w.lengths.now)) so_far.read list so_far.fit by.fits;
        range_is = by.range_is ∙ ap (λ (r : Range). fold widened r (weights list)) so_far.range_is
            ∙ sym (one_more w.rule w.lengths.now w.total empty_range so_far.read list);
        told = for_both files name (λ content. range ≡ widened_there content docs w (take i lists)) (λ content. list.postings ≡ (list_there content docs e.place.at).postings)
            (λ content. now ≡ widened_there content docs w (take (i + 1) lists))
            (λ content was one. by.range_is ∙ ap₂ (λ (r : Range) (ps : List Posting). fold widened r (weights_in w.rule w.lengths.now w.total ps)) was one ∙ sym (range_more content))
            so_far.told by.there;
      }

  -- a list that can't widen the range
  pub widens_same : StaysInside → (files : Option Files) (name : List ℕ) (norms : List ℕ) (ends range : Range) (can : Bool) → length w.lengths.now ≡ docs → ForContent files name (λ content. All (HoldsMost content docs) lists)
      → norms ≡ w.norms.now → ends ≡ range_of norms → can ≡ can_widen w.rule (length norms) e.place.count e.place.most ends range → can ≡ false
      → Widens files name docs w (take i lists) range → Widens files name docs w (take (i + 1) lists) range
  widens_same stays files name norms ends range can as_many most norms_are ends_are judged cannot so_far = record {
    read = so_far.read;
    fit = so_far.fit;
    range_is = so_far.range_is;
    told = for_both files name (λ content. range ≡ widened_there content docs w (take i lists)) (λ content. All (HoldsMost content docs) lists) (λ content. range ≡ widened_there content docs w (take (i + 1) lists))
        (λ content was all. sym (left_alone content (subst (HoldsMost content docs) (sym is) (all i e low))) ∙ ap (λ (r : Range). fold widened r (weights_there content)) was ∙ sym (range_more content))
        so_far.told most;
  }
    where
      weights_there : List ℕ → List ℕ
      weights_there content = weights_in w.rule w.lengths.now w.total (list_there content docs e.place.at).postings

      all_norms : norms ≡ norms_in w.lengths.now w.total
      all_norms = norms_are ∙ w.norms_are

      as_many_norms : length norms ≡ length w.lengths.now
      as_many_norms = ap length all_norms ∙ length-map w.lengths.now (λ (n : ℕ). min (length_norm (length w.lengths.now) w.total n) (2 ^ 63))

      left_alone : (content : List ℕ) → HoldsMost content docs e → fold widened range (weights_there content) ≡ range
      left_alone content holds =
          let there : holds.list ≡ list_there content docs e.place.at = list_there_is content docs e.place.at holds.list holds.there in
          let outside : can_widen w.rule (length w.lengths.now) (length holds.list.postings) (most_tf holds.list.postings) (range_of (norms_in w.lengths.now w.total)) range ≡ false
          = ap₂ (λ (n count : ℕ). can_widen w.rule n count (most_tf holds.list.postings) (range_of (norms_in w.lengths.now w.total)) range) (sym as_many_norms) (sym holds.count)
          ∙ ap₂ (λ (most : ℕ) (r : Range). can_widen w.rule (length norms) e.place.count most r range) (sym holds.most) (sym (ends_are ∙ ap range_of all_norms))
          ∙ sym judged ∙ cannot in
          ap (λ (l : ListData). fold widened range (weights_in w.rule w.lengths.now w.total l.postings)) (sym there)
          ∙ stays w.rule w.lengths.now w.total range holds.list w.few (subst (λ (n : ℕ). FitsList n holds.list) (sym as_many) holds.fits) (subst (λ (n : ℕ). 1 ≤ n) holds.count e.place.some) outside

-- a list behind others, which left the walk as it was
pub widened_then : (files now : Option Files) (old mid : WalkView) (w : Weighing) (at : ℕ) (before after : Range) → now ≡ files → LeavesWalk old mid
    → IsWidenedBy now mid.name mid.docs w at before after → IsWidenedBy files old.name old.docs w at before after
widened_then files now old mid w at before after same leaves by = record {
  list = by.list;
  fits = by.fits;
  range_is = by.range_is;
  there = told_then files now old mid (λ docs content. by.list.postings ≡ (list_there content docs at).postings) same leaves by.there;
}

-- the norms of a collection are cut off
pub norms_cut : (w : Weighing) (norms : List ℕ) → norms ≡ w.norms.now → All (λ n. n ≤ 2 ^ 63) norms
norms_cut w norms is =
    let norm : ℕ → ℕ = λ (n : ℕ). min (length_norm (length w.lengths.now) w.total n) (2 ^ 63) in
    subst (All (λ n. n ≤ 2 ^ 63)) (sym (is ∙ w.norms_are)) (All-map (λ n. n ≤ 2 ^ 63) norm w.lengths.now (λ i d low. min-le_right _ _))

-- whoever can't widen a range can't widen one that it was widened to
pub passed_still : (rule : Rule) (docs : ℕ) (norms range : Range) (weights : List ℕ) (sizes : List ListSize) → All (CannotWiden rule docs norms range) sizes → All (CannotWiden rule docs norms (fold widened range weights)) sizes
passed_still rule docs norms range weights sizes each i d inside some =
    still docs (slice_index_or sizes i d).count (lightest rule docs (slice_index_or sizes i d).count norms) range.least (fold widened range weights).least
    range.greatest (fold widened range weights).greatest (heaviest rule docs (slice_index_or sizes i d).count (slice_index_or sizes i d).most norms)
    (least-le_start range weights) (greatest-ge_start range weights) (each i d inside some)
  where
    still : (docs count low least less greatest greater high : ℕ) → less ≤ least → greatest ≤ greater → (nat_lt docs count || nat_lt low least || nat_lt greatest high) ≡ false → (nat_lt docs count || nat_lt low less || nat_lt greater high) ≡ false
    still docs count low least less greatest greater high falls rises cannot = grind (arith, nat_tests)
