-- Numbers by their bits.
use Rattle.shared_lemmas.proofs.Common.{◌≡◌, ℕ, ◌*◌, ◌/◌, ◌%◌, ◌^◌, ◌<◌, ◌≤◌, sym, ap, ◌∙◌, arith, inl, inr, bit_at, cases_lt, shr_split, bit_at_cat_low}

pub bit_at-mod : (n k v : ℕ) → v < k → bit_at (n % 2 ^ k) v ≡ bit_at n v
bit_at-mod n k v h = sym (bit_at_cat_low (n / 2 ^ k) k (n % 2 ^ k) v h) ∙ ap (λ m. bit_at m v) (shr_split n k)

-- a bit leaves a number out or takes it in
pub bit_times : (b p : ℕ) → b < 2 → b * p ≤ p
bit_times b p small =
    elim (cases_lt b 1) [
      | inl l ↦ omega (arith, ap (λ a. a * p) (let e : b ≡ 0 = omega arith in e))
      | inr g ↦ omega (arith, ap (λ a. a * p) (let e : b ≡ 1 = omega arith in e))
    ]
