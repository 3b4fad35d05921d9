-- A list that can't widen a range leaves it as it is.
use Rattle.shared_lemmas.proofs.Common.{◌≡◌, ℕ, ◌<◌, ◌≤◌, ◌^◌, max, min, List, [], ◌∷◌, length, false, refl, ap, ◌∙◌, arith, fold, ◌||◌, All, nat_lt, slice_index, AllByRecursion, le_trans, nat_tests, All-from_recursion, recursion_from_All}
use Rattle.shared_lemmas.proofs.Lists.{all_map}
use Rattle.impact_segments.proofs.Below.{FitsList, ListData, HasTfInRange, docs_of, Posting, Rule, Tf, Bm25, Range, empty_range, range_of, widened, idf, length_norm, saturated, lg_of_rarity, least-le_start, least-le_each, greatest-ge_each, greatest-from, same_range}
use Rattle.impact_segments.specs.Bounds.{can_widen, heaviest, lightest, most_tf, weight_at}
use Rattle.impact_segments.specs.Collections.{weight_in, weights_in}
use Rattle.impact_segments.specs.OneList.{norms_in}
use Rattle.impact_segments.proofs.OneTerm.{all_map_at}
use Rattle.impact_segments.proofs.Weights.{few_rising, weight_by}

-- ---- the ends of norms that were cut

pub greatest_cut : (norms : List ℕ) (ends : Range) → ends ≡ range_of norms → All (λ n. n ≤ 2 ^ 63) norms → ends.greatest ≤ 2 ^ 63
greatest_cut norms ends is cut =
    omega (arith, ap (λ (r : Range). r.greatest) is, greatest-from (2 ^ 63) empty_range norms (omega arith) (recursion_from_All (λ n. n ≤ 2 ^ 63) norms cut))

pub least_cut : (norms : List ℕ) (ends : Range) → ends ≡ range_of norms → All (λ n. n ≤ 2 ^ 63) norms → 1 ≤ length norms → ends.least ≤ 2 ^ 63
least_cut [] ends is cut some = absurd (omega (arith, some))
least_cut (n ∷ norms) ends is cut some =
    let first : n ≤ 2 ^ 63 = (recursion_from_All (λ (n : ℕ). n ≤ 2 ^ 63) (n ∷ norms) cut).0 in
    omega (arith, ap (λ (r : Range). r.least) is, least-le_start (widened empty_range n) norms, first)

-- ---- no frequency is above the greatest

from_start : (most : ℕ) (ps : List Posting) → most ≤ fold (λ (most : ℕ) (p : Posting). max most p.tf) most ps
from_start most [] = omega arith
from_start most (p ∷ ps) = omega (arith, from_start (max most p.tf) ps)

pub to_most : (most : ℕ) (ps : List Posting) → AllByRecursion (λ (p : Posting). p.tf ≤ fold (λ (most : ℕ) (p : Posting). max most p.tf) most ps) ps
to_most most [] = tt
to_most most (p ∷ ps) = (omega (arith, from_start (max most p.tf) ps), to_most (max most p.tf) ps)

-- ---- no weight is outside

module _ (rises : (rare tf more norm : ℕ) → 1 ≤ tf → tf ≤ more → saturated rare tf norm ≤ saturated rare more norm)
    (falls : (rare tf norm more : ℕ) → 1 ≤ tf → norm ≤ more → saturated rare tf more ≤ saturated rare tf norm) where
  abbrev Between : Rule → ℕ → ℕ → Range → ℕ → Type 0
  Between rule rare most norms w = (weight_at rule rare 1 norms.greatest ≤ w) × (w ≤ weight_at rule rare most norms.least)

  between : (rule : Rule) (lengths : List ℕ) (total count most : ℕ) (norms : Range) (p : Posting) → norms ≡ range_of (norms_in lengths total) → idf (length lengths) count < 27648 → p.doc < length lengths → HasTfInRange p → p.tf ≤ most
      → Between rule (idf (length lengths) count) most norms (weight_in rule lengths total count p)
  between Tf lengths total count most norms p is low below tf le = (tf.0, le)
  between Bm25 lengths total count most norms p is low below tf le =
      let rare : ℕ = idf (length lengths) count in
      let cut : ℕ → ℕ = λ (n : ℕ). min (length_norm (length lengths) total n) (2 ^ 63) in
      let norm : ℕ = cut (slice_index lengths p.doc) in
      let from : (range_of (norms_in lengths total)).least ≤ norm
      = all_map_at (λ (n : ℕ). (range_of (norms_in lengths total)).least ≤ n) cut lengths p.doc 0 below (All-from_recursion (λ (n : ℕ). (range_of (norms_in lengths total)).least ≤ n) (norms_in lengths total) (least-le_each empty_range (norms_in lengths total))) in
      let to : norm ≤ (range_of (norms_in lengths total)).greatest
      = all_map_at (λ (n : ℕ). n ≤ (range_of (norms_in lengths total)).greatest) cut lengths p.doc 0 below (All-from_recursion (λ (n : ℕ). n ≤ (range_of (norms_in lengths total)).greatest) (norms_in lengths total) (greatest-ge_each empty_range (norms_in lengths total))) in
      let w : ℕ = max 1 (saturated rare p.tf norm) in
      let same : w ≡ weight_in Bm25 lengths total count p = weight_by lengths total count p.tf p.doc rare (slice_index lengths p.doc) norm w refl refl low tf.1 refl refl in
      let least : norms.least ≤ norm = omega (arith, ap (λ (r : Range). r.least) is, from) in
      let greatest : norm ≤ norms.greatest = omega (arith, ap (λ (r : Range). r.greatest) is, to) in
      let one : saturated rare 1 norms.greatest ≤ saturated rare 1 norm = falls rare 1 norm norms.greatest (omega arith) greatest in
      let grown : saturated rare 1 norm ≤ saturated rare p.tf norm = rises rare 1 p.tf norm (omega arith) tf.0 in
      let more : saturated rare p.tf norm ≤ saturated rare most norm = rises rare p.tf most norm tf.0 le in
      let last : saturated rare most norm ≤ saturated rare most norms.least = falls rare most norms.least norm (le_trans tf.0 le) least in
      (omega (arith, same, one, grown), omega (arith, same, more, last))

  each_between : (rule : Rule) (lengths : List ℕ) (total count most : ℕ) (norms : Range) (ps : List Posting) → norms ≡ range_of (norms_in lengths total) → idf (length lengths) count < 27648
      → AllByRecursion (λ (doc : ℕ). doc < length lengths) (docs_of ps) → AllByRecursion HasTfInRange ps → AllByRecursion (λ (p : Posting). p.tf ≤ most) ps
      → AllByRecursion (λ (p : Posting). Between rule (idf (length lengths) count) most norms (weight_in rule lengths total count p)) ps
  each_between rule lengths total count most norms [] is low below tf le = tt
  each_between rule lengths total count most norms (p ∷ ps) is low below tf le =
      (between rule lengths total count most norms p is low below.0 tf.0 le.0, each_between rule lengths total count most norms ps is low below.1 tf.1 le.1)

  stays : (range : Range) (low high : ℕ) (ws : List ℕ) → range.least ≤ low → high ≤ range.greatest → AllByRecursion (λ (w : ℕ). (low ≤ w) × (w ≤ high)) ws → fold widened range ws ≡ range
  stays range low high [] from to each = refl
  stays range low high (w ∷ ws) from to each =
      let same : widened range w ≡ range = same_range (widened range w) range (omega (arith, from, each.0.0)) (omega (arith, to, each.0.1)) in
      ap (λ (r : Range). fold widened r ws) same ∙ stays range low high ws from to each.1

  pub unwidened : (rule : Rule) (lengths : List ℕ) (total : ℕ) (range : Range) (l : ListData) → length lengths ≤ 2 ^ 26 → FitsList (length lengths) l → 1 ≤ length l.postings
      → can_widen rule (length lengths) (length l.postings) (most_tf l.postings) (range_of (norms_in lengths total)) range ≡ false
      → fold widened range (weights_in rule lengths total l.postings) ≡ range
  unwidened rule lengths total range l few fits some cannot =
      let docs : ℕ = length lengths in
      let count : ℕ = length l.postings in
      let most : ℕ = most_tf l.postings in
      let norms : Range = range_of (norms_in lengths total) in
      let within : count ≤ docs = few_rising docs l.postings fits.rising fits.below in
      let rare : idf docs count < 27648 = omega (arith, (lg_of_rarity docs count some within few).1) in
      let parts : (lightest rule docs count norms < range.least → ⊥) × (range.greatest < heaviest rule docs count most norms → ⊥)
      = inside docs count (lightest rule docs count norms) range.least range.greatest (heaviest rule docs count most norms) cannot in
      stays range (lightest rule docs count norms) (heaviest rule docs count most norms) (weights_in rule lengths total l.postings) (omega (arith, parts.0)) (omega (arith, parts.1))
      (all_map (λ (w : ℕ). (lightest rule docs count norms ≤ w) × (w ≤ heaviest rule docs count most norms)) (weight_in rule lengths total count) l.postings
      (each_between rule lengths total count most norms l.postings refl rare (recursion_from_All (λ (doc : ℕ). doc < docs) (docs_of l.postings) fits.below) (recursion_from_All HasTfInRange l.postings fits.tf) (to_most 1 l.postings)))
    where
      inside : (docs count low least greatest high : ℕ) → (nat_lt docs count || nat_lt low least || nat_lt greatest high) ≡ false → (low < least → ⊥) × (greatest < high → ⊥)
      inside docs count low least greatest high cannot = ((λ less. grind (arith, nat_tests)), (λ less. grind (arith, nat_tests)))
