-- What holds of each of the 16 selectors.
use Rattle.shared_lemmas.proofs.Common.{◌≡◌, ℕ, zero, suc, ◌+◌, ◌*◌, ◌-◌, ◌^◌, ◌<◌, ◌≤◌, Bool, true, false, refl, arith, nat_eq, nat_lt, nat_le, ◌||◌, list_all, range_with_len, nat_tests, and_parts}
use Rattle.codec_simple8.specs.Simple8.{count_of, width_of}

each_from : (p : ℕ → Bool) (n a : ℕ) → list_all p (range_with_len a n) ≡ true → (k : ℕ) → k < n → p (a + k) ≡ true
each_from p zero a all k within = absurd (omega arith)
each_from p (suc n) a all zero within = let here : a + 0 ≡ a = omega arith in rw here (and_parts (p a) (list_all p (range_with_len (a + 1) n)) all).0
each_from p (suc n) a all (suc k) within =
    let there : a + suc k ≡ a + 1 + k = omega arith in
    rw there (each_from p n (a + 1) (and_parts (p a) (list_all p (range_with_len (a + 1) n)) all).1 k (omega arith))

-- a test that each of so many selectors passes, from one on
pub each_of : (p : ℕ → Bool) (n a : ℕ) → list_all p (range_with_len a n) ≡ true → (s : ℕ) → a ≤ s → s < a + n → p s ≡ true
each_of p n a all s from to =
    let there = each_from p n a all (s - a) (omega (arith, from, to)) in
    let here : a + (s - a) ≡ s = omega (arith, from) in
    rw here at there

-- a test that each selector passes
pub at_each : (p : ℕ → Bool) (n : ℕ) → list_all p (range_with_len 0 n) ≡ true → (s : ℕ) → s < n → p s ≡ true
at_each p n all s within = each_of p n 0 all s (omega arith) (omega (arith, within))

pub count_some : (s : ℕ) → s < 16 → 1 ≤ count_of s
unfolding count_of
count_some s within = let t = at_each (λ s. nat_le 1 (count_of s)) 16 refl s within in grind (arith, nat_tests)

pub count_most : (s : ℕ) → s < 16 → count_of s ≤ 240
unfolding count_of
count_most s within = let t = at_each (λ s. nat_le (count_of s) 240) 16 refl s within in grind (arith, nat_tests)

pub width_most : (s : ℕ) → s < 16 → width_of s ≤ 60
unfolding width_of
width_most s within = let t = at_each (λ s. nat_le (width_of s) 60) 16 refl s within in grind (arith, nat_tests)

pub bits_most : (s : ℕ) → s < 16 → width_of s * count_of s ≤ 60
unfolding width_of count_of
bits_most s within = let t = at_each (λ s. nat_le (width_of s * count_of s) 60) 16 refl s within in grind (arith, nat_tests)

-- a greater selector has no more gaps, and no narrower ones
pub count_falls : (s : ℕ) → s < 15 → count_of (s + 1) ≤ count_of s
unfolding count_of
count_falls s within = let t = at_each (λ s. nat_le (count_of (s + 1)) (count_of s)) 15 refl s within in grind (arith, nat_tests)

pub width_rises : (s : ℕ) → s < 15 → width_of s ≤ width_of (s + 1)
unfolding width_of
width_rises s within = let t = at_each (λ s. nat_le (width_of s) (width_of (s + 1))) 15 refl s within in grind (arith, nat_tests)

-- the gaps of a word of selectors 5 to 12, with one for each, add up to little
pub narrow_sums : (s : ℕ) → 5 ≤ s → s ≤ 12 → count_of s * 2 ^ width_of s + count_of s ≤ 67108864
unfolding count_of width_of
narrow_sums s from to =
    let t = each_of (λ s. nat_le (count_of s * 2 ^ width_of s + count_of s) 67108864) 8 5 refl s from (omega (arith, to)) in
    grind (arith, nat_tests)

pub narrow_counts : (s : ℕ) → 5 ≤ s → s < 16 → count_of s ≤ 15
unfolding count_of
narrow_counts s from to = let t = each_of (λ s. nat_le (count_of s) 15) 11 5 refl s from (omega (arith, to)) in grind (arith, nat_tests)

-- a word of selector 12 has a row of gaps
pub one_row : (s : ℕ) → s ≡ 12 → count_of s ≡ 4
unfolding count_of
one_row s is = rw is refl

-- from the third on each selector has wider ones than the selector before
pub wider_widths : (s : ℕ) → 2 ≤ s → s < 16 → width_of (s - 1) < width_of s
unfolding width_of
wider_widths s from to = let t = each_of (λ s. nat_lt (width_of (s - 1)) (width_of s)) 14 2 refl s from (omega (arith, to)) in grind (arith, nat_tests)

-- the last selector
pub last_count : count_of 15 ≡ 1
unfolding count_of
last_count = refl

pub last_width : width_of 15 ≡ 60
unfolding width_of
last_width = refl

-- the gaps of the first two are all 0
pub flat_widths : (s : ℕ) → s < 2 → width_of s ≡ 0
unfolding width_of
flat_widths s within = let t = at_each (λ s. nat_le (width_of s) 0) 2 refl s within in grind (arith, nat_tests)

-- the words of the others have room in what two of them leave of a block
pub count_others : (s : ℕ) → 2 ≤ s → s < 16 → count_of s ≤ 60
unfolding count_of
count_others s others within =
    let t = at_each (λ s. nat_lt s 2 || nat_le (count_of s) 60) 16 refl s within in
    let u : nat_lt s 2 ≡ false = grind (arith, nat_tests) in
    let v : nat_le (count_of s) 60 ≡ true = rw u at t in
    grind (arith, nat_tests)

-- all but the last have gaps of at most 30 bits
pub narrow_others : (s : ℕ) → s < 15 → width_of s ≤ 30
unfolding width_of
narrow_others s within = let t = at_each (λ s. nat_le (width_of s) 30) 15 refl s within in grind (arith, nat_tests)

-- only the words of the last one have one gap
pub last_only : (s : ℕ) → s < 16 → count_of s ≤ 1 → s ≡ 15
unfolding count_of
last_only s within one =
    let t = at_each (λ s. nat_lt 1 (count_of s) || nat_eq s 15) 16 refl s within in
    let u : nat_lt 1 (count_of s) ≡ false = grind (arith, nat_tests) in
    let v : nat_eq s 15 ≡ true = rw u at t in
    grind (arith, nat_tests)

-- four rows of four have room for the gaps of selectors 5 to 7
pub four_rows : (s : ℕ) → 5 ≤ s → s ≤ 7 → count_of s ≤ 16
unfolding count_of
four_rows s from to =
    let t = each_of (λ s. nat_le (count_of s) 16) 3 5 refl s from (omega (arith, to)) in grind (arith, nat_tests)

-- and two rows for those of selectors 8 to 11
pub two_rows : (s : ℕ) → 8 ≤ s → s ≤ 11 → count_of s ≤ 8
unfolding count_of
two_rows s from to =
    let t = each_of (λ s. nat_le (count_of s) 8) 4 8 refl s from (omega (arith, to)) in grind (arith, nat_tests)
