-- Places that rise, and the one that is looked for among them.
use Rattle.shared_lemmas.proofs.Common.{◌≡◌, ◌∙◌, ℕ, zero, suc, ◌+◌, ◌-◌, ◌^◌, ◌<◌, ◌≤◌, List, [], ◌∷◌, ◌++◌, length, map, get_or, All, Some, refl, sym, ap, subst, arith, inl, inr, slice_get, IsStrictlyIncreasing, cases_lt, below_from_sorted, sorted_from_strictly_increasing, get_or_from_slice_get}
use Rattle.shared_lemmas.proofs.Common.{same_Some, map-append, length-map, length-append, get_or-map, sum_by-append, All-append, All-map, Contains-append_right}
use Rattle.ciff_read.specs.declared.kept_lists.ListPlace.{ListPlace}
use Rattle.ciff_read.specs.Pieces.{KeptList, places_kept}
use Rattle.ciff_read.specs.Walk.{HasKept, IsGiven}
use Rattle.ciff_read.specs.Private.Walk.{IsInRange}
use Rattle.ciff_read.proofs.KeptTerms.{as_kept}
use Rattle.ciff_read.proofs.Postings.{rising-snoc, All-one}

more_rise : (kept : List KeptList) (k : KeptList) → IsStrictlyIncreasing (places_kept kept) → All (λ (x : KeptList). x.at < k.at) kept → IsStrictlyIncreasing (places_kept (kept ++ k ∷ []))
more_rise kept k rising before =
    let places : places_kept (kept ++ k ∷ []) ≡ places_kept kept ++ k.at ∷ [] = map-append (λ (x : KeptList). x.at) kept (k ∷ []) in
    let below : All (λ n. n < k.at) (places_kept kept) = All-map (λ n. n < k.at) (λ (x : KeptList). x.at) kept before in
    rw places (rising-snoc (places_kept kept) (k.at - 1) k.at rising (λ i d lt. omega (arith, below i d lt)) (λ some. omega (arith, below 0 0 some)))

more_before : (kept : List KeptList) (k : KeptList) (end : ℕ) → All (λ (x : KeptList). x.at < k.at) kept → k.at < end → All (λ (x : KeptList). x.at < end) (kept ++ k ∷ [])
more_before kept k end before last =
    All-append (λ (x : KeptList). x.at < end) kept (k ∷ []) (λ i d lt. omega (arith, before i d lt, last)) (All-one (λ (x : KeptList). x.at < end) k last)

-- one list more keeps the ranges
pub one_more_list : (lists docs given postings end : ℕ) (kept now : List KeptList) (k : KeptList) → IsInRange lists docs k.at given postings kept → now ≡ kept ++ k ∷ [] → length kept < lists → postings + k.count ≤ 2 ^ 29 → k.at < end → end ≤ 2 ^ 32
    → IsInRange lists docs end given (postings + k.count) now
one_more_list lists docs given postings end kept now k ranges is more few behind near =
    subst (IsInRange lists docs end given (postings + k.count)) (sym is) (record {
      few_lists = ranges.few_lists;
      few_docs = ranges.few_docs;
      counted = omega (arith, ranges.counted, sum_by-append (λ (x : KeptList). x.count) kept (k ∷ []));
      few_postings = few;
      lists_given = omega (arith, more, length-append kept (k ∷ []));
      docs_given = ranges.docs_given;
      near = near;
      rising = more_rise kept k ranges.rising ranges.before;
      before = more_before kept k end ranges.before behind;
    })

-- places that rise, pair by pair
rise_apart : (xs : List ℕ) (i j : ℕ) → IsStrictlyIncreasing xs → i < j → j < length xs → get_or xs i 0 < get_or xs j 0
rise_apart xs i j rising before inside = below_from_sorted xs i j 0 (sorted_from_strictly_increasing xs rising) before inside

-- the list at a place is one of those from low to high
pub record LiesFrom (kept : List KeptList) (at low high : ℕ) : Type 0 where
  pub index : ℕ
  pub above : low ≤ index
  pub below : index ≤ high
  pub within : high < length kept
  pub is : get_or (places_kept kept) index 0 ≡ at

module _ (kept : List KeptList) (rising : IsStrictlyIncreasing (places_kept kept)) (at low high middle : ℕ) (lies : LiesFrom kept at low high) (n : ℕ) (inside : middle ≤ high) (is : get_or (places_kept kept) middle 0 ≡ n) where
  size : length (places_kept kept) ≡ length kept
  size = length-map kept (λ (x : KeptList). x.at)

  pub lies_above : n ≤ at → LiesFrom kept at middle high
  lies_above le =
      record {
        index = lies.index;
        above = elim (cases_lt lies.index middle) [
          | inl before ↦ absurd (omega (arith, rise_apart (places_kept kept) lies.index middle rising before (omega (arith, size, inside, lies.within)), lies.is, is, le))
          | inr behind ↦ behind
        ];
        below = lies.below;
        within = lies.within;
        is = lies.is;
      }

  pub lies_below : at < n → LiesFrom kept at low (middle - 1)
  lies_below lt =
      record {
        index = lies.index;
        above = lies.above;
        below = elim (cases_lt lies.index middle) [
          | inl before ↦ omega arith
          | inr behind ↦ elim (cases_lt middle lies.index) [
            | inl after ↦ absurd (omega (arith, rise_apart (places_kept kept) middle lies.index rising after (omega (arith, size, lies.below, lies.within)), lies.is, is, lt))
            | inr same ↦ absurd (omega (arith, ap (λ i. get_or (places_kept kept) i 0) (middle_is behind same), lies.is, is, lt))
          ]
        ];
        within = omega (arith, inside, lies.within);
        is = lies.is;
      }
    where
      middle_is : middle ≤ lies.index → lies.index ≤ middle → middle ≡ lies.index
      middle_is a b = omega arith

-- an entry of the table is a list that is kept
pub record KeptAt (kept : List KeptList) (i : ℕ) (place : ListPlace) : Type 0 where
  pub list : KeptList
  pub there : slice_get kept i ≡ Some list
  pub at : list.at ≡ place.at
  pub count : list.count ≡ place.count

pub entry_kept : (entries : List (List ℕ × ListPlace)) (i : ℕ) (place : ListPlace) → slice_get (map (λ (e : List ℕ × ListPlace). e.1) entries) i ≡ Some place → KeptAt (map as_kept entries) i place
entry_kept [] i place is = absurd cc
entry_kept (e ∷ es) zero place is = let same = same_Some e.1 place is in record { list = as_kept e; there = refl; at = ap (λ (p : ListPlace). p.at) same; count = ap (λ (p : ListPlace). p.count) same }
entry_kept (e ∷ es) (suc i) place is =
    let later = entry_kept es i place is in
    record { list = later.list; there = later.there; at = later.at; count = later.count }

pub place_kept : (kept : List KeptList) (i : ℕ) (place : ListPlace) → KeptAt kept i place → i < length kept → get_or (places_kept kept) i 0 ≡ place.at
place_kept kept i place k inside = get_or-map (λ (x : KeptList). x.at) kept i k.list 0 inside ∙ ap (λ (x : KeptList). x.at) (get_or_from_slice_get kept i k.list k.list k.there) ∙ k.at

pub count_found : (kept : List KeptList) (at i : ℕ) (place : ListPlace) → KeptAt kept i place → LiesFrom kept at i i → HasKept kept at place.count
count_found kept at i place k lies =
    let same : lies.index ≡ i = omega (arith, lies.above, lies.below) in (
      k.list,
      (i, lies.within, get_or_from_slice_get kept i k.list k.list k.there),
      k.at ∙ sym (place_kept kept i place k lies.within) ∙ ap (λ n. get_or (places_kept kept) n 0) (sym same) ∙ lies.is,
      k.count,
    )

-- the list that was kept last is given
pub given_last : (kept : List KeptList) (k : KeptList) → IsGiven (kept ++ k ∷ []) k.at
given_last kept k = (k, Contains-append_right kept (k ∷ []) k (0, omega arith, refl), refl)
