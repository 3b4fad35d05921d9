-- A range that was widened by each of some weights has their least and their greatest at its ends.
use Rattle.shared_lemmas.proofs.Common.{◌≡◌, ℕ, ◌^◌, ◌<◌, ◌≤◌, ◌⊎◌, inl, inr, List, [], ◌∷◌, length, refl, ap₂, arith, AllByRecursion, le_antisymm, All-head, All-weaker, All-from_recursion, recursion_from_All, All-contains, All-contains_itself, Contains-append_right, Contains-permutation}
use Rattle.shared_lemmas.proofs.Common.{IsPermutation-sym, cases_lt}
use Rattle.std.specs.List.{fold, All, Contains}
use Rattle.std.specs.List.Sorted.{IsPermutation}
use Rattle.weights.specs.declared.quantizing.Range.{Range}
use Rattle.weights.specs.Quantizing.{empty_range, widened, range_of}

pub least-le_start : (r : Range) (ws : List ℕ) → (fold widened r ws).least ≤ r.least
least-le_start r [] = omega arith
least-le_start r (w ∷ ws) = omega (arith, least-le_start (widened r w) ws)

pub greatest-ge_start : (r : Range) (ws : List ℕ) → r.greatest ≤ (fold widened r ws).greatest
greatest-ge_start r [] = omega arith
greatest-ge_start r (w ∷ ws) = omega (arith, greatest-ge_start (widened r w) ws)

pub least-le_each : (r : Range) (ws : List ℕ) → AllByRecursion (λ w. (fold widened r ws).least ≤ w) ws
least-le_each r [] = tt
least-le_each r (w ∷ ws) = (omega (arith, least-le_start (widened r w) ws), least-le_each (widened r w) ws)

pub greatest-ge_each : (r : Range) (ws : List ℕ) → AllByRecursion (λ w. w ≤ (fold widened r ws).greatest) ws
greatest-ge_each r [] = tt
greatest-ge_each r (w ∷ ws) = (omega (arith, greatest-ge_start (widened r w) ws), greatest-ge_each (widened r w) ws)

-- what is below the start and each weight is below the least
pub least-from : (k : ℕ) (r : Range) (ws : List ℕ) → k ≤ r.least → AllByRecursion (λ w. k ≤ w) ws → k ≤ (fold widened r ws).least
least-from k r [] start each = start
least-from k r (w ∷ ws) start each = least-from k (widened r w) ws (omega (arith, each.0)) each.1

pub greatest-from : (k : ℕ) (r : Range) (ws : List ℕ) → r.greatest ≤ k → AllByRecursion (λ w. w ≤ k) ws → (fold widened r ws).greatest ≤ k
greatest-from k r [] start each = start
greatest-from k r (w ∷ ws) start each = greatest-from k (widened r w) ws (omega (arith, each.0)) each.1

-- the least is that of the start or one of the weights
least-among : (r : Range) (ws : List ℕ) → ((fold widened r ws).least ≡ r.least) ⊎ Contains ws (fold widened r ws).least
least-among r [] = inl refl
least-among r (w ∷ ws) = elim (least-among (widened r w) ws) [
  | inl kept ↦ elim (cases_lt r.least w) [ inl above ↦ inl (omega (arith, kept)) | inr below ↦ inr (0, omega arith, omega (arith, kept)) ]
  | inr among ↦ inr (Contains-append_right (w ∷ []) ws _ among)
]

-- and so is the greatest
greatest-among : (r : Range) (ws : List ℕ) → ((fold widened r ws).greatest ≡ r.greatest) ⊎ Contains ws (fold widened r ws).greatest
greatest-among r [] = inl refl
greatest-among r (w ∷ ws) = elim (greatest-among (widened r w) ws) [
  | inl kept ↦ elim (cases_lt r.greatest w) [ inl above ↦ inr (0, omega arith, omega (arith, kept)) | inr below ↦ inl (omega (arith, kept)) ]
  | inr among ↦ inr (Contains-append_right (w ∷ []) ws _ among)
]

pub range_of-least : (ws : List ℕ) (w : ℕ) → Contains ws w → (range_of ws).least ≤ w
range_of-least ws w among = All-contains (λ x. (range_of ws).least ≤ x) ws w (All-from_recursion _ ws (least-le_each empty_range ws)) among

pub range_of-greatest : (ws : List ℕ) (w : ℕ) → Contains ws w → w ≤ (range_of ws).greatest
range_of-greatest ws w among = All-contains (λ x. x ≤ (range_of ws).greatest) ws w (All-from_recursion _ ws (greatest-ge_each empty_range ws)) among

-- of some weights of 64 bits the ends are weights themselves
pub range_of-least_among : (ws : List ℕ) → 0 < length ws → All (λ w. w < 2 ^ 64) ws → Contains ws (range_of ws).least
range_of-least_among [] some fit = absurd (omega arith)
range_of-least_among (w ∷ ws) some fit =
    let fits : w < 2 ^ 64 = All-head (λ x. x < 2 ^ 64) w ws fit in
    elim (least-among (widened empty_range w) ws) [ inl kept ↦ (0, omega arith, omega (arith, kept)) | inr among ↦ Contains-append_right (w ∷ []) ws _ among ]

pub range_of-greatest_among : (ws : List ℕ) → 0 < length ws → Contains ws (range_of ws).greatest
range_of-greatest_among [] some = absurd (omega arith)
range_of-greatest_among (w ∷ ws) some =
    elim (greatest-among (widened empty_range w) ws) [ inl kept ↦ (0, omega arith, omega (arith, kept)) | inr among ↦ Contains-append_right (w ∷ []) ws _ among ]

-- each weight of one list is in the other's range
least-le : (ws vs : List ℕ) → IsPermutation vs ws → (range_of ws).least ≤ (range_of vs).least
least-le ws vs moved =
    least-from (range_of ws).least empty_range vs (least-le_start empty_range ws)
    (recursion_from_All _ vs (All-weaker (Contains vs) (λ v. (range_of ws).least ≤ v)
    (λ v among. range_of-least ws v (Contains-permutation vs ws v moved among)) vs (All-contains_itself vs)))

greatest-ge : (ws vs : List ℕ) → IsPermutation vs ws → (range_of vs).greatest ≤ (range_of ws).greatest
greatest-ge ws vs moved =
    greatest-from (range_of ws).greatest empty_range vs (greatest-ge_start empty_range ws)
    (recursion_from_All _ vs (All-weaker (Contains vs) (λ v. v ≤ (range_of ws).greatest)
    (λ v among. range_of-greatest ws v (Contains-permutation vs ws v moved among)) vs (All-contains_itself vs)))

pub same_range : (r s : Range) → r.least ≡ s.least → r.greatest ≡ s.greatest → r ≡ s
same_range r s low high = ap₂ (λ (l g : ℕ). let both : Range = record { least = l; greatest = g } in both) low high

-- the order of the weights does not count
pub range_of-permutation : (ws vs : List ℕ) → IsPermutation ws vs → range_of ws ≡ range_of vs
range_of-permutation ws vs moved =
    let back : IsPermutation vs ws = IsPermutation-sym ws vs moved in
    same_range (range_of ws) (range_of vs) (le_antisymm (least-le ws vs back) (least-le vs ws moved))
    (le_antisymm (greatest-ge vs ws moved) (greatest-ge ws vs back))
