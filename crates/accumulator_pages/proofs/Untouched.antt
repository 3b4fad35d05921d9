-- The first document without a score.
use Rattle.shared_lemmas.proofs.Common.{◌≡◌, ◌≢◌, ◌==◌, ℕ, ◌+◌, ◌-◌, ◌*◌, ◌<◌, ◌≤◌, Bool, false, not, List, length, get_or, All, Some, None, eqb-true, eq-eqb, sym, ap, ◌∙◌, subst, inl, inr, arith, prefix_len, cases_lt, ne_eqb, nat_tests, prefix_len_is, position-Some}
use Rattle.std.specs.List.{position}

abbrev is_zero : ℕ → Bool
is_zero score = score == 0

-- none before it is zero, and it is
pub first_untouched : (s : List ℕ) (docs d : ℕ) → length s ≡ docs → d < docs → ((k : ℕ) → k < d → k < docs → get_or s k 0 ≢ 0) → get_or s d 0 ≡ 0 → Some d ≡ position is_zero s
first_untouched s docs d size inside before here =
    let n : prefix_len (λ x. not (is_zero x)) s ≡ d =
    prefix_len_is (λ x. not (is_zero x)) s d 0 (omega arith) (λ k h. ap not (ne_eqb (get_or s k 0) 0 (before k h (omega arith)))) (λ _. ap not (eq-eqb (get_or s d 0) 0 here)) in
    rw n (grind (arith, nat_tests))

-- none is zero
pub all_touched : (s : List ℕ) (docs d : ℕ) → length s ≡ docs → docs ≤ d → ((k : ℕ) → k < d → k < docs → get_or s k 0 ≢ 0) → None ≡ position is_zero s
all_touched s docs d size past before =
    let n : prefix_len (λ x. not (is_zero x)) s ≡ length s =
    prefix_len_is (λ x. not (is_zero x)) s (length s) 0 (omega arith) (λ k h. ap not (ne_eqb (get_or s k 0) 0 (before k (omega arith) (omega arith)))) (λ h. absurd (omega arith)) in
    rw n (grind (arith, nat_tests))

-- pages without a zero, and the front of the next one
pub joined : (s : List ℕ) (docs page n : ℕ) → ((k : ℕ) → k < 256 * page → k < docs → get_or s k 0 ≢ 0) → ((i : ℕ) → i < n → 256 * page + i < docs → get_or s (256 * page + i) 0 ≢ 0)
    → (k : ℕ) → k < 256 * page + n → k < docs → get_or s k 0 ≢ 0
joined s docs page n pages front k inside within = elim (cases_lt k (256 * page)) as (λ _. get_or s k 0 ≢ 0) [
  | inl below ↦ pages k below within
  | inr above ↦
      let at : 256 * page + (k - 256 * page) ≡ k = omega arith in
      subst (λ (j : ℕ). get_or s j 0 ≢ 0) at (front (k - 256 * page) (omega arith) (omega arith))
]

-- the same page by page
pub joined_page : (s : List ℕ) (docs page next : ℕ) → next ≡ page + 1 → ((k : ℕ) → k < 256 * page → k < docs → get_or s k 0 ≢ 0) → ((i : ℕ) → i < 256 → 256 * page + i < docs → get_or s (256 * page + i) 0 ≢ 0)
    → (k : ℕ) → k < 256 * next → k < docs → get_or s k 0 ≢ 0
joined_page s docs page next is pages front k inside within = joined s docs page 256 pages front k (omega arith) within

-- a row of 256 scores beside the documents of its page
not_zero : (x : ℕ) → (x == 0) ≡ false → x ≢ 0
not_zero x is = grind (arith, nat_tests)

pub row_first : (row s : List ℕ) (docs page slot : ℕ) → ((i : ℕ) → i < 256 → 256 * page + i < docs → get_or row i 0 ≡ get_or s (256 * page + i) 0) → slot < 256 → Some slot ≡ position is_zero row
    → (256 * page + slot < docs → get_or s (256 * page + slot) 0 ≡ 0) × ((i : ℕ) → i < slot → 256 * page + i < docs → get_or s (256 * page + i) 0 ≢ 0)
row_first row s docs page slot same small found =
    let at = position-Some is_zero row slot 0 (sym found) in
    ((λ inside. sym (same slot small inside) ∙ eqb-true (get_or row slot 0) 0 at.1), (λ i before inside none. not_zero (get_or row i 0) (at.2 i before) (same i (omega arith) inside ∙ none)))

pub row_none : (row s : List ℕ) (docs page : ℕ) → ((i : ℕ) → i < 256 → 256 * page + i < docs → get_or row i 0 ≡ get_or s (256 * page + i) 0) → length row ≡ 256 → All (λ x. x ≢ 0) row
    → (i : ℕ) → i < 256 → 256 * page + i < docs → get_or s (256 * page + i) 0 ≢ 0
row_none row s docs page same long all i small inside none = all i 0 (omega arith) (same i small inside ∙ none)
