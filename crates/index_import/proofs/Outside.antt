-- A weight outside a range differs from the end that is nearer to it, where the ends are in order.
use Rattle.shared_lemmas.proofs.Common.{◌≡◌, ◌≢◌, ◌∙◌, ◌⊎◌, inl, inr, ℕ, ◌<◌, ◌≤◌, ◌^◌, ◌&&◌, Bool, true, false, cond, List, [], ◌∷◌, ◌++◌, length, map, All, AllByRecursion, Option, Some, None, refl, sym, ap, subst, arith, nat_tests, nat_le, fold, max, slice_index, recursion_from_All}
use Rattle.index_import.proofs.Below.{HasTfInRange, ListData, Posting, Bits, Of, Raw, Range, Rule, empty_range, widened, outside, weights_in, widened_by}
use Rattle.impact_segments.proofs.Weights.{few_rising}
use Rattle.impact_segments.specs.Collections.{weight_in}
use Rattle.impact_segments.specs.OneList.{ArePostingsOf, Unmade, distance, first_outside, has_weight, nearer_end}
use Rattle.impact_segments.specs.declared.one_list.SegmentsFault.TheVariants.{Outside}
use Rattle.weights.proofs.Limits.{weight_of-lt}
use Rattle.weights.specs.Weighting.{bm25, weight_of}
use Rattle.weights.specs.declared.weighting.Rule.TheVariants.{Tf, Bm25}
use Rattle.index_import.specs.Private.Ranging.{HasOrder}

-- a weight is at least 1, and below 2^31
abbrev IsWeight : ℕ → Type 0
IsWeight w = (1 ≤ w) × (w < 2 ^ 31)

some_weight : (rule : Rule) (docs total n tf length : ℕ) → 1 ≤ tf → 1 ≤ weight_of rule docs total n tf length
some_weight Tf docs total n tf length some = some
some_weight Bm25 docs total n tf length some = omega arith

weights_fit : (rule : Rule) (lengths : List ℕ) (total : ℕ) (postings : List Posting) → ArePostingsOf lengths total postings → AllByRecursion IsWeight (weights_in rule lengths total postings)
weights_fit rule lengths total postings are = each postings (recursion_from_All HasTfInRange postings are.tf)
  where
    count : length postings ≤ length lengths
    count = few_rising (length lengths) postings are.rising are.below

    each : (ps : List Posting) → AllByRecursion HasTfInRange ps → AllByRecursion IsWeight (map (weight_in rule lengths total (length postings)) ps)
    each [] tf = tt
    each (p ∷ ps) tf = (
      (
        some_weight rule (length lengths) total (length postings) p.tf (slice_index lengths p.doc) tf.0.0,
        weight_of-lt rule (length lengths) total (length postings) p.tf (slice_index lengths p.doc) are.some count are.few tf.0.1,
      ),
      each ps tf.1,
    )

-- one weight
apart : (range : Range) (w : ℕ) → HasOrder range → IsWeight w → has_weight range w ≡ false → nearer_end range w ≢ w
apart range w order fits out = by order (nat_le (distance w range.least) (distance w range.greatest)) refl
  where
    by : HasOrder range → (test : Bool) → nat_le (distance w range.least) (distance w range.greatest) ≡ test → cond test range.least range.greatest ≢ w
    by (inl ordered) true near = λ same. grind (arith, nat_tests)
    by (inl ordered) false near = λ same. grind (arith, nat_tests)
    by (inr none) true near = λ same. omega (arith, fits.1, same, ap (λ (r : Range). r.least) none)
    by (inr none) false near = λ same. omega (arith, fits.0, same, ap (λ (r : Range). r.greatest) none)

first_apart : (range : Range) (weights : List ℕ) (kept found : ℕ) → HasOrder range → AllByRecursion IsWeight weights → first_outside range weights ≡ Some (kept, found) → kept ≢ found
first_apart range [] kept found order fit is = absurd cc
first_apart range (w ∷ weights) kept found order fit is = by (λ rest. first_apart range weights kept found order fit.1 rest) (has_weight range w) refl is
  where
    by : (first_outside range weights ≡ Some (kept, found) → kept ≢ found) → (test : Bool) → has_weight range w ≡ test → cond test (first_outside range weights) (Some (nearer_end range w, w)) ≡ Some (kept, found) → kept ≢ found
    by rest true inside is = rest is
    by rest false out is =
        let both : (nearer_end range w, w) ≡ (kept, found) = cc in
        λ same. apart range w order fit.0 out (ap (λ (x : ℕ × ℕ). x.0) both ∙ same ∙ sym (ap (λ (x : ℕ × ℕ). x.1) both))

pub outside_apart : (rule : Rule) (bits : Bits) (lengths : List ℕ) (total : ℕ) (range : Range) (postings : List Posting) (kept found : ℕ) → ArePostingsOf lengths total postings → HasOrder range
    → Unmade (outside bits range (weights_in rule lengths total postings)) (Outside kept found) → kept ≢ found
outside_apart rule Raw lengths total range postings kept found are order is = absurd cc
outside_apart rule (Of b) lengths total range postings kept found are order is = first_apart range (weights_in rule lengths total postings) kept found order (weights_fit rule lengths total postings are) is

-- a range that lists widened has its ends in order
widened_order : (range : Range) (weights : List ℕ) → HasOrder range → HasOrder (fold widened range weights)
widened_order range [] order = order
widened_order range (w ∷ weights) order = widened_order (widened range w) weights (inl (omega arith))

pub lists_order : (rule : Rule) (lengths : List ℕ) (total : ℕ) (range : Range) (lists : List ListData) → HasOrder range → HasOrder (widened_by rule lengths total range lists)
lists_order rule lengths total range [] order = order
lists_order rule lengths total range (l ∷ lists) order =
    lists_order rule lengths total (fold widened range (weights_in rule lengths total l.postings)) lists (widened_order range (weights_in rule lengths total l.postings) order)
