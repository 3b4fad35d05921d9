-- A range that was widened list by list is that of all weights, and holds each.
use Rattle.shared_lemmas.proofs.Common.{◌≡◌, ℕ, ◌≤◌, ◌^◌, List, [], ◌∷◌, ◌++◌, fold, length, true, refl, sym, ap, ◌∙◌, subst, arith, All, IsPermutation, None, nat_lt, slice_index, AllByRecursion, flat_map, le_antisymm, nat_tests, recursion_from_All, All-from_recursion, All-permutation}
use Rattle.shared_lemmas.proofs.Common.{IsPermutation-sym, fold-append}
use Rattle.shared_lemmas.proofs.Lists.{all_weaker, all_map, all_flat, all_parts}
use Rattle.impact_segments.proofs.Below.{CollectionData, FitsList, ListData, HasTfInRange, Posting, Rule, Bits, Raw, Of, Range, empty_range, range_of, widened, weight_of-lt, least-le_start, greatest-ge_start, least-le_each, greatest-ge_each, least-from, greatest-from, same_range}
use Rattle.impact_segments.specs.Collections.{lengths_of, total_of, weight_in, weights_in, weights_of}
use Rattle.impact_segments.specs.ListTerms.{lists_in_use, widened_by}
use Rattle.impact_segments.specs.OneList.{EndsLow, first_outside, has_weight, outside}
use Rattle.impact_segments.proofs.ByTerm.{flat_kept, none_of}
use Rattle.impact_segments.proofs.Weights.{few_rising, held}

-- ---- of lists in whatever order

module _ {A : Type 0} (W : A → List ℕ) where
  least_le : (xs ys : List A) → IsPermutation xs ys → (range_of (flat_map W ys)).least ≤ (range_of (flat_map W xs)).least
  least_le xs ys moved =
      let k : ℕ = (range_of (flat_map W ys)).least in
      let P : A → Type 0 = λ (a : A). AllByRecursion (λ (w : ℕ). k ≤ w) (W a) in
      let theirs : AllByRecursion P ys = all_parts (λ (w : ℕ). k ≤ w) W ys (least-le_each empty_range (flat_map W ys)) in
      let mine : AllByRecursion P xs = recursion_from_All P xs (All-permutation P ys xs (IsPermutation-sym xs ys moved) (All-from_recursion P ys theirs)) in
      least-from k empty_range (flat_map W xs) (least-le_start empty_range (flat_map W ys)) (all_flat (λ (w : ℕ). k ≤ w) W xs mine)

  greatest_ge : (xs ys : List A) → IsPermutation xs ys → (range_of (flat_map W xs)).greatest ≤ (range_of (flat_map W ys)).greatest
  greatest_ge xs ys moved =
      let k : ℕ = (range_of (flat_map W ys)).greatest in
      let P : A → Type 0 = λ (a : A). AllByRecursion (λ (w : ℕ). w ≤ k) (W a) in
      let theirs : AllByRecursion P ys = all_parts (λ (w : ℕ). w ≤ k) W ys (greatest-ge_each empty_range (flat_map W ys)) in
      let mine : AllByRecursion P xs = recursion_from_All P xs (All-permutation P ys xs (IsPermutation-sym xs ys moved) (All-from_recursion P ys theirs)) in
      greatest-from k empty_range (flat_map W xs) (greatest-ge_start empty_range (flat_map W ys)) (all_flat (λ (w : ℕ). w ≤ k) W xs mine)

  range_moved : (xs ys : List A) → IsPermutation xs ys → range_of (flat_map W xs) ≡ range_of (flat_map W ys)
  range_moved xs ys moved =
      let back : IsPermutation ys xs = IsPermutation-sym xs ys moved in
      same_range (range_of (flat_map W xs)) (range_of (flat_map W ys)) (le_antisymm (least_le ys xs back) (least_le xs ys moved)) (le_antisymm (greatest_ge xs ys moved) (greatest_ge ys xs back))

  in_turn : (range : Range) (xs : List A) → fold (λ (r : Range) (a : A). fold widened r (W a)) range xs ≡ fold widened range (flat_map W xs)
  in_turn range [] = refl
  in_turn range (a ∷ xs) = in_turn (fold widened range (W a)) xs ∙ sym (fold-append widened range (W a) (flat_map W xs))

pub widened_more_by : (rule : Rule) (lengths : List ℕ) (total : ℕ) (range : Range) (lists : List ListData) (l : ListData)
    → widened_by rule lengths total range (lists ++ l ∷ []) ≡ fold widened (widened_by rule lengths total range lists) (weights_in rule lengths total l.postings)
widened_more_by rule lengths total range lists l = fold-append (λ (r : Range) (l : ListData). fold widened r (weights_in rule lengths total l.postings)) range lists (l ∷ [])

pub range_by_lists : (c : CollectionData) (rule : Rule) (lists : List ListData) → IsPermutation lists (lists_in_use c.lists)
    → widened_by rule (lengths_of c.docs) (total_of (lengths_of c.docs)) empty_range lists ≡ range_of (weights_of c rule)
range_by_lists c rule lists moved =
    let lengths : List ℕ = lengths_of c.docs in
    let W : ListData → List ℕ = λ (l : ListData). weights_in rule lengths (total_of lengths) l.postings in
    in_turn W empty_range lists
    ∙ range_moved W lists (lists_in_use c.lists) moved
    ∙ ap range_of (flat_kept W (λ (l : ListData). nat_lt 0 (length l.postings)) (λ l h. none_of _ l.postings h) c.lists)

-- ---- each weight inside

none_outside : (range : Range) (ws : List ℕ) → AllByRecursion (λ (w : ℕ). (range.least ≤ w) × (w ≤ range.greatest)) ws → first_outside range ws ≡ None
none_outside range [] h = refl
none_outside range (w ∷ ws) h =
    let from : range.least ≤ w = h.0.0 in
    let to : w ≤ range.greatest = h.0.1 in
    let inside : has_weight range w ≡ true = grind (arith, nat_tests) in
    rw inside (none_outside range ws h.1)

pub each_inside : (rule : Rule) (bits : Bits) (lengths : List ℕ) (total : ℕ) (range : Range) (lists : List ListData)
    → All (λ (l : ListData). outside bits (widened_by rule lengths total range lists) (weights_in rule lengths total l.postings) ≡ None) lists
each_inside rule Raw lengths total range lists = λ i d low. refl
each_inside rule (Of b) lengths total range lists =
    let W : ListData → List ℕ = λ (l : ListData). weights_in rule lengths total l.postings in
    let all : Range = widened_by rule lengths total range lists in
    let In : ℕ → Type 0 = λ (w : ℕ). (all.least ≤ w) × (w ≤ all.greatest) in
    let P : Range → Type 0 = λ (r : Range). AllByRecursion (λ (w : ℕ). (r.least ≤ w) × (w ≤ r.greatest)) (flat_map W lists) in
    let each : AllByRecursion In (flat_map W lists) = subst P (sym (in_turn W range lists)) (held range (flat_map W lists)) in
    All-from_recursion (λ (l : ListData). first_outside all (W l) ≡ None) lists
    (all_weaker (λ (l : ListData). AllByRecursion In (W l)) (λ (l : ListData). first_outside all (W l) ≡ None) (λ l h. none_outside all (W l) h) lists (all_parts In W lists each))

-- ---- the end

weights_low : (rule : Rule) (lengths : List ℕ) (total : ℕ) (l : ListData) → length lengths ≤ 2 ^ 26 → FitsList (length lengths) l → AllByRecursion (λ (w : ℕ). w ≤ 2 ^ 31) (weights_in rule lengths total l.postings)
weights_low rule lengths total l few fits =
    let count : length l.postings ≤ length lengths = few_rising (length lengths) l.postings fits.rising fits.below in
    all_map (λ (w : ℕ). w ≤ 2 ^ 31) (weight_in rule lengths total (length l.postings)) l.postings
    (each l.postings (λ (some : 1 ≤ length l.postings). some) count (recursion_from_All HasTfInRange l.postings fits.tf))
  where
    each : (ps : List Posting) → (1 ≤ length ps → 1 ≤ length l.postings) → length l.postings ≤ length lengths → AllByRecursion HasTfInRange ps
        → AllByRecursion (λ (p : Posting). weight_in rule lengths total (length l.postings) p ≤ 2 ^ 31) ps
    each [] some count tf = tt
    each (p ∷ ps) some count tf =
        let own : 1 ≤ length l.postings = some (omega arith) in
        (omega (arith, weight_of-lt rule (length lengths) total (length l.postings) p.tf (slice_index lengths p.doc) own count few tf.0.1), each ps (λ _. own) count tf.1)

pub widened_low : (rule : Rule) (bits : Bits) (lengths : List ℕ) (total : ℕ) (lists : List ListData) → length lengths ≤ 2 ^ 26 → All (FitsList (length lengths)) lists
    → EndsLow bits (widened_by rule lengths total empty_range lists)
widened_low rule Raw lengths total lists few fit = tt
widened_low rule (Of b) lengths total lists few fit =
    let W : ListData → List ℕ = λ (l : ListData). weights_in rule lengths total l.postings in
    let each : AllByRecursion (λ (w : ℕ). w ≤ 2 ^ 31) (flat_map W lists) = all_flat (λ (w : ℕ). w ≤ 2 ^ 31) W lists
    (all_weaker (FitsList (length lengths)) (λ (l : ListData). AllByRecursion (λ (w : ℕ). w ≤ 2 ^ 31) (W l)) (λ l fits. weights_low rule lengths total l few fits) lists (recursion_from_All (FitsList (length lengths)) lists fit)) in
    let low : (fold widened empty_range (flat_map W lists)).greatest ≤ 2 ^ 31 = greatest-from (2 ^ 31) empty_range (flat_map W lists) (omega arith) each in
    omega (arith, ap (λ (r : Range). r.greatest) (in_turn W empty_range lists), low)
