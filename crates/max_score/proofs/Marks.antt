-- Marks of 64 numbers, and what is left of them from one on.
use Rattle.shared_lemmas.proofs.Common.{◌≡◌, ◌==◌, ◌+◌, ◌/◌, ◌^◌, ℕ, ◌<◌, ◌≤◌, ◌⊎◌, inl, inr, Bool, true, false, cond, not, List, length, map, get_or, bit_or, refl, sym, ap, ◌∙◌, arith, bit_at_or, bit_at-zero, bit_at_above, nat_tests, shr-shr, get_or-map, get_or-chunk, length-chunk, cases_lt}
use Rattle.std.proofs.lemmas.Nat.Bits.{bit_at-trailing_zeros}
use Rattle.std.proofs.lemmas.Simd.{bit_mask_l}
use Rattle.std.specs.Int.{bit_at, w64}
use Rattle.lane_kernels.proofs.Bits.{bit_at-shr}
use lib.Count.{count_trailing_zeros}
use lib.Lanes.{chunk, mask_l}

abbrev is_some : ℕ → Bool
is_some x = not (x == 0)

is_zero : (x : ℕ) → is_some x ≡ false → x ≡ 0
is_zero x e = grind (arith, nat_tests)

unset : (b : Bool) → ◌≡◌ {A = ℕ} (cond b 1 0) 0 → b ≡ false
unset true e = absurd (omega (arith, e))
unset false e = refl

-- a number without a mark is 0
pub none_marked : (xs : List ℕ) (at : ℕ) (room : at + 64 ≤ length xs) (mask : ℕ) → mask ≡ mask_l (map is_some (chunk at 64 xs)) → (i : ℕ) → i < 64 → bit_at mask i ≡ 0 → get_or xs (at + i) 0 ≡ 0
none_marked xs at room mask is i inside none =
    let long = length-chunk at 64 xs room in
    let bit : get_or (map is_some (chunk at 64 xs)) i false ≡ false = unset _ (sym (bit_mask_l (map is_some (chunk at 64 xs)) i) ∙ ap (λ m. bit_at m i) (sym is) ∙ none) in
    is_zero (get_or xs (at + i) 0) (ap is_some (sym (get_or-chunk at 64 xs i 0 inside)) ∙ sym (get_or-map is_some (chunk at 64 xs) i 0 false (omega (arith, long, inside))) ∙ bit)

pub neither : (a b i : ℕ) → bit_at (bit_or a b) i ≡ 0 → (bit_at a i ≡ 0) × (bit_at b i ≡ 0)
neither a b i none = let both = bit_at_or a b i in (omega (arith, both, none), omega (arith, both, none))

-- what is left of the marks from a place on
module _ (marks place ahead : ℕ) (left : ahead ≡ marks / 2 ^ place) where
  bit_left : (i : ℕ) → bit_at ahead i ≡ bit_at marks (place + i)
  bit_left i = ap (λ n. bit_at n i) left ∙ bit_at-shr marks place i

  -- none of those in front of the next mark is set, and that one stands among the 64
  module _ (small : marks < 2 ^ 64) (fits : ahead < 2 ^ 64) (some : 0 < ahead) where
    abbrev gap : ℕ
    gap = count_trailing_zeros 64 ahead

    pub none_ahead : (i : ℕ) → i < gap → bit_at marks (place + i) ≡ 0
    none_ahead i below = sym (bit_left i) ∙ (bit_at-trailing_zeros w64 ahead some fits).2 i below

    pub gap_fits : gap < 64
    gap_fits = (bit_at-trailing_zeros w64 ahead some fits).0

    pub next_inside : place + gap < 64
    next_inside = by (cases_lt (place + gap) 64) where
      set : bit_at marks (place + gap) ≡ 1
      set = sym (bit_left gap) ∙ (bit_at-trailing_zeros w64 ahead some fits).1

      by : (place + gap < 64) ⊎ (64 ≤ place + gap) → place + gap < 64
      by (inl inside) = inside
      by (inr past) = let none = bit_at_above marks 64 (place + gap) small past in absurd (omega (arith, set, none))

  pub none_left : ahead ≡ 0 → (i : ℕ) → bit_at marks (place + i) ≡ 0
  none_left none i = sym (bit_left i) ∙ ap (λ n. bit_at n i) none ∙ bit_at-zero i

  pub moved_on : (gap : ℕ) → ahead / 2 ^ gap / 2 ^ 1 ≡ marks / 2 ^ (place + gap + 1)
  moved_on gap = ap (λ n. n / 2 ^ gap / 2 ^ 1) left ∙ ap (λ n. n / 2 ^ 1) (shr-shr marks place gap) ∙ shr-shr marks (place + gap) 1
