-- Texts by their first bytes.
use Rattle.shared_lemmas.proofs.Common.{◌≡◌, ◌<◌, ◌≤◌, ◌+◌, ◌*◌, ◌^◌, ◌-◌, ℕ, zero, suc, true, false, List, [], ◌∷◌, drop, All, slice_index, nat_lt, nat_eq, arith, inl, inr, ap, sym, subst, ◌∙◌, refl, nat_cmp, slice_cmp, cases_lt, nat_tests, All-head, All-tail, mul-le-mul_right, pow-suc}
use Rattle.shared_lemmas.proofs.Common.{pow-le-pow_right}
use Rattle.std.proofs.Common.{Less}
use Rattle.index_file.specs.Private.Samples.{leading, first_eight}

abbrev Byte : ℕ → Type 0
Byte b = b < 256

one_more : (x p : ℕ) → (x + 1) * p ≡ x * p + p
one_more x p = omega arith

-- a byte and what is below a power of 256
within : (x p l : ℕ) → x < 256 → l < p → x * p + l < 256 * p
within x p l small less =
    let top : (x + 1) * p ≤ 256 * p = mul-le-mul_right p (omega (arith, small)) in
    omega (arith, top, less, one_more x p)

pub leading_small : (k : ℕ) (text : List ℕ) → All Byte text → leading k text < 256 ^ k
leading_small zero text bytes = omega arith
leading_small (suc k) [] bytes = (let p = leading_small k [] bytes in let e = pow-suc 256 k in omega (arith, p, e))
leading_small (suc k) (x ∷ text) bytes =
    let e = pow-suc 256 k in
    let here = within x (256 ^ k) (leading k text) (All-head Byte x text bytes) (leading_small k text (All-tail Byte x text bytes)) in
    omega (arith, e, here)

same_first : (x : ℕ) (xs ys : List ℕ) → slice_cmp nat_cmp (x ∷ xs) (x ∷ ys) ≡ slice_cmp nat_cmp xs ys
same_first x xs ys =
    let e : nat_lt x x ≡ false = grind (arith, nat_tests) in
    let f : nat_eq x x ≡ true = grind (arith, nat_tests) in
    rw (e, f) refl

-- a lower number is of a lower text
below : (k : ℕ) (xs ys : List ℕ) → All Byte xs → All Byte ys → leading k xs < leading k ys → slice_cmp nat_cmp xs ys ≡ Less
below zero xs ys bytes others less = absurd (omega (arith, less))
below (suc k) [] [] bytes others less = absurd (omega (arith, less))
below (suc k) [] (y ∷ ys) bytes others less = refl
below (suc k) (x ∷ xs) [] bytes others less = absurd (omega (arith, less))
below (suc k) (x ∷ xs) (y ∷ ys) bytes others less = elim (cases_lt x y) [
  | inl l ↦ (let e : nat_lt x y ≡ true = grind (arith, nat_tests, l) in rw e refl)
  | inr g ↦ elim (cases_lt y x) [
    | inl l ↦ absurd (
        let top : (y + 1) * 256 ^ k ≤ x * 256 ^ k = mul-le-mul_right (256 ^ k) (omega (arith, l)) in
        let small = leading_small k ys (All-tail Byte y ys others) in
        omega (arith, top, small, less, one_more y (256 ^ k)))
    | inr h ↦ (
        let same : y ≡ x = omega (arith, g, h) in
        let rest : leading k xs < leading k ys = (let e : y * 256 ^ k ≡ x * 256 ^ k = ap (λ n. n * 256 ^ k) same in omega (arith, less, e)) in
        subst (λ n. slice_cmp nat_cmp (x ∷ xs) (n ∷ ys) ≡ Less) (sym same) (same_first x xs ys ∙ below k xs ys (All-tail Byte x xs bytes) (All-tail Byte y ys others) rest))
  ]
]

pub eight_below : (xs ys : List ℕ) → All Byte xs → All Byte ys → first_eight xs < first_eight ys → slice_cmp nat_cmp xs ys ≡ Less
unfolding first_eight
eight_below xs ys bytes others less = below 8 xs ys bytes others less

-- one byte more of a number
nothing : (k : ℕ) → leading k [] ≡ 0
nothing zero = refl
nothing (suc k) = refl

next_byte : (k i : ℕ) (text : List ℕ) → leading (suc k) (drop i text) ≡ slice_index text i * 256 ^ k + leading k (drop (suc i) text)
next_byte k zero [] = (let e = nothing k in omega (arith, e))
next_byte k (suc i) [] = (let e = nothing k in omega (arith, e))
next_byte k zero (x ∷ text) = refl
next_byte k (suc i) (x ∷ text) = next_byte k i text

regroup : (n b p rest : ℕ) → n * (p * 256) + (b * p + rest) ≡ (n * 256 + b) * p + rest
regroup n b p rest = omega arith

pub leading_on : (total n b i : ℕ) (text : List ℕ) → i < 8 → b ≡ slice_index text i → total ≡ n * 256 ^ (8 - i) + leading (8 - i) (drop i text) → total ≡ (n * 256 + b) * 256 ^ (8 - (i + 1)) + leading (8 - (i + 1)) (drop (i + 1) text)
leading_on total n b i text low is read =
    let k = 8 - (i + 1) in
    let more : 8 - i ≡ suc k = omega (arith, low) in
    let next : suc i ≡ i + 1 = omega arith in
    read
    ∙ ap (λ j. n * 256 ^ j + leading j (drop i text)) more
    ∙ ap (λ p. n * p + leading (suc k) (drop i text)) (pow-suc 256 k)
    ∙ ap (λ m. n * (256 ^ k * 256) + m) (next_byte k i text ∙ ap (λ b. b * 256 ^ k + leading k (drop (suc i) text)) (sym is) ∙ ap (λ j. b * 256 ^ k + leading k (drop j text)) next)
    ∙ regroup n b (256 ^ k) (leading k (drop (i + 1) text))

pub leading_done : (total n i : ℕ) (text : List ℕ) → i ≡ 8 → total ≡ n * 256 ^ (8 - i) + leading (8 - i) (drop i text) → n ≡ total
leading_done total n i text all read =
    let whole : n * 256 ^ 0 + leading 0 (drop 8 text) ≡ n = omega arith in
    sym (read ∙ ap (λ i. n * 256 ^ (8 - i) + leading (8 - i) (drop i text)) all ∙ whole)

pub number_small : (n b i : ℕ) → n < 256 ^ i → b < 256 → n * 256 + b < 256 ^ (i + 1)
number_small n b i small byte =
    let next : i + 1 ≡ suc i = omega arith in
    let e = pow-suc 256 i in
    subst (λ j. n * 256 + b < 256 ^ j) (sym next) (omega (arith, e, small, byte))

pub number_fits : (n b i : ℕ) → n < 256 ^ i → i < 8 → b < 256 → n * 256 + b < 2 ^ 64
number_fits n b i small low byte =
    let most : 256 ^ (i + 1) ≤ 256 ^ 8 = pow-le-pow_right (let p : 0 < 256 = omega arith in p) {i = i + 1} {j = 8} (omega (arith, low)) in
    let n = number_small n b i small byte in
    omega (arith, n, most)
