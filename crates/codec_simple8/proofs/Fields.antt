-- The numbers that stand in the bits of another, one after the other.
use Rattle.shared_lemmas.proofs.Common.{◌≡◌, ℕ, zero, suc, ◌+◌, ◌*◌, ◌-◌, ◌/◌, ◌%◌, ◌^◌, ◌<◌, ◌≤◌, true, false, [], ◌∷◌, length, replicate, bit_and, inl, inr, refl, sym, ap, ◌∙◌, arith, nat_eq, nat_lt, ◌&&◌, sum, list_all, digits_l, number_l, cases_lt, nat_tests, length-replicate, sum_by-cons}
use Rattle.shared_lemmas.proofs.Common.{and_block, and_le_r, and_mask, div-add-mod', field_of, le-div, mod-mul-add, mod-pow-add, mul-le, one_shl, pow-add, pow_pos, shr_below, div-eq_of_lt, mod-add-div, mod-eq_of_lt, mod-lt, mod-one, mul-suc, pow-le-pow_right, suc-mul, and-true, and-false}
use Rattle.codec_simple8.specs.Simple8.{fields}
use Rattle.codec_simple8.proofs.Digits.{Below, Below-cons, Below-wider, digits_below, length-digits, number_below, power_of_power}

pub fields_one : (w n m x : ℕ) → m ≡ suc n → fields w m x ≡ (x % 2 ^ w) ∷ fields w n (x / 2 ^ w)
unfolding fields
fields_one w n m x is = ap (λ k. fields w k x) is

pub fields_none : (w m x : ℕ) → m ≡ 0 → fields w m x ≡ []
unfolding fields
fields_none w m x is = ap (λ k. fields w k x) is

pub length-fields : (w n x : ℕ) → length (fields w n x) ≡ n
unfolding fields
length-fields w n x = length-digits (2 ^ w) n x

-- the low bits of a number
pub masked : (rest width : ℕ) → width < 64 → bit_and rest (1 * 2 ^ width % 18446744073709551616 - 1) ≡ rest % 2 ^ width
masked rest width small = ap (λ m. bit_and rest (m - 1)) (one_shl width 64 small) ∙ and_mask rest width

-- nothing is left of a number above a width exactly where the width holds it
pub nothing_above : (gap p : ℕ) → 0 < p → nat_eq (gap / p) 0 ≡ nat_lt gap p
nothing_above gap p some = elim (cases_lt gap p) [
  | inl less ↦ let none : gap / p ≡ 0 = div-eq_of_lt less in let t : nat_lt gap p ≡ true = grind (arith, nat_tests) in rw (none, t) refl
  | inr more ↦
      let one : 1 ≤ gap / p = le-div 1 gap p some (omega arith) in
      let t : nat_lt gap p ≡ false = grind (arith, nat_tests) in
      let u : nat_eq (gap / p) 0 ≡ false = grind (arith, nat_tests) in
      rw (u, t) refl
]

-- ---- their sum

pub record Summing (w n rest done values all : ℕ) : Type 0 where
  pub total : done + sum (fields w n rest) ≡ all
  pub most : done + rest ≤ values

parts : (x p : ℕ) → 0 < p → x % p + x / p ≤ x
parts x p some = let le = mul-le 1 (x / p) p (x / p) (omega arith) (omega arith) in omega (arith, mod-add-div x p, le)

pub sum_one : (w n m rest done values all : ℕ) → m ≡ suc n → Summing w m rest done values all → Summing w n (rest / 2 ^ w) (done + rest % 2 ^ w) values all
sum_one w n m rest done values all is s = record {
  total = let one = ap sum (fields_one w n m rest is) ∙ sum_by-cons (λ x. x) (rest % 2 ^ w) (fields w n (rest / 2 ^ w)) in omega (arith, s.total, one);
  most = omega (arith, s.most, parts rest (2 ^ w) (pow_pos w));
}

pub sum_small : (w rest done values : ℕ) → done + rest ≤ values → done + rest % 2 ^ w ≤ values
sum_small w rest done values most = omega (arith, most, parts rest (2 ^ w) (pow_pos w))

pub sum_all : (w m rest done values all : ℕ) → m ≡ 0 → Summing w m rest done values all → done ≡ all
sum_all w m rest done values all is s = let none = ap sum (fields_none w m rest is) in omega (arith, s.total, none)

-- ---- whether a width holds each

-- the bits that a width doesn't hold
high_part : (r own width : ℕ) → width < own → r < 2 ^ own → nat_eq (bit_and r (2 ^ own - 2 ^ width)) 0 ≡ nat_lt r (2 ^ width)
high_part r own width wider small =
    let split : own ≡ own - width + width = omega (arith, wider) in
    let power : 2 ^ own ≡ 2 ^ (own - width) * 2 ^ width = ap (λ n. 2 ^ n) split ∙ pow-add 2 (own - width) width in
    let some = pow_pos (own - width) in
    let high : 2 ^ own - 2 ^ width ≡ (2 ^ (own - width) - 1) * 2 ^ width + 0 = ap (λ n. n - 2 ^ width) power ∙ less_one (2 ^ (own - width)) (2 ^ width) some in
    let low : r ≡ r / 2 ^ width * 2 ^ width + r % 2 ^ width = sym (div-add-mod' r (2 ^ width)) in
    let blocks = and_block width (r / 2 ^ width) (2 ^ (own - width) - 1) (r % 2 ^ width) 0 (mod-lt r (pow_pos width)) (pow_pos width) in
    let none : bit_and (r % 2 ^ width) 0 ≡ 0 = omega (arith, and_le_r (r % 2 ^ width) 0) in
    let fits : r / 2 ^ width < 2 ^ (own - width) = shr_below r (own - width) width (omega (arith, small, ap (λ n. 2 ^ n) split)) in
    let mask = and_mask (r / 2 ^ width) (own - width) ∙ mod-eq_of_lt fits in
    let is : bit_and r (2 ^ own - 2 ^ width) ≡ r / 2 ^ width * 2 ^ width =
    ap (λ h. bit_and r h) high ∙ ap (λ x. bit_and x ((2 ^ (own - width) - 1) * 2 ^ width + 0)) low ∙ blocks ∙ ap (λ m. m * 2 ^ width + bit_and (r % 2 ^ width) 0) mask ∙ (let e : r / 2 ^ width * 2 ^ width + bit_and (r % 2 ^ width) 0 ≡ r / 2 ^ width * 2 ^ width = omega (arith, none) in e) in
    ap (λ n. nat_eq n 0) is ∙ times_zero (r / 2 ^ width) (2 ^ width) (pow_pos width) ∙ nothing_above r (2 ^ width) (pow_pos width)
  where
    less_one : (a b : ℕ) → 0 < a → a * b - b ≡ (a - 1) * b + 0
    less_one zero b some = absurd (omega arith)
    less_one (suc a) b some = let e : suc a - 1 ≡ a = omega arith in rw e (omega (arith, suc-mul a b))

    times_zero : (a b : ℕ) → 0 < b → nat_eq (a * b) 0 ≡ nat_eq a 0
    times_zero zero b some = let e : 0 * b ≡ 0 = omega arith in rw e refl
    times_zero (suc a) b some =
        let more : 0 < suc a * b = omega (arith, suc-mul a b) in
        let t : nat_eq (suc a * b) 0 ≡ false = grind (arith, nat_tests) in
        let u : nat_eq (suc a) 0 ≡ false = grind (arith, nat_tests) in
        t ∙ sym u

and_zero : (a p r : ℕ) → 0 < p → nat_eq (a * p + r) 0 ≡ (nat_eq r 0 && nat_eq a 0)
and_zero zero p r some = let e : 0 * p + r ≡ r = omega arith in rw e (sym (and-true (nat_eq r 0)))
and_zero (suc a) p r some =
    let more : 0 < suc a * p + r = omega (arith, suc-mul a p) in
    let t : nat_eq (suc a * p + r) 0 ≡ false = grind (arith, nat_tests) in
    let u : nat_eq (suc a) 0 ≡ false = grind (arith, nat_tests) in
    t ∙ sym (ap (λ b. nat_eq r 0 && b) u ∙ and-false (nat_eq r 0))

-- of numbers one after the other
pub high_parts : (own width n x : ℕ) → width < own → nat_eq (bit_and x (number_l (2 ^ own) (replicate n (2 ^ own - 2 ^ width)))) 0 ≡ list_all (λ gap. nat_lt gap (2 ^ width)) (fields own n x)
unfolding fields
high_parts own width zero x wider = let none : bit_and x 0 ≡ 0 = omega (arith, and_le_r x 0) in rw none refl
high_parts own width (suc n) x wider =
    let x_is : x ≡ x / 2 ^ own * 2 ^ own + x % 2 ^ own = sym (div-add-mod' x (2 ^ own)) in
    let high : 2 ^ own - 2 ^ width < 2 ^ own = omega (arith, pow_pos width, pow_pos own) in
    let turned : 2 ^ own - 2 ^ width + 2 ^ own * number_l (2 ^ own) (replicate n (2 ^ own - 2 ^ width)) ≡ number_l (2 ^ own) (replicate n (2 ^ own - 2 ^ width)) * 2 ^ own + (2 ^ own - 2 ^ width) = turn (2 ^ own - 2 ^ width) (2 ^ own) (number_l (2 ^ own) (replicate n (2 ^ own - 2 ^ width))) in
    let small = mod-lt x (pow_pos own) in
    let blocks = and_block own (x / 2 ^ own) (number_l (2 ^ own) (replicate n (2 ^ own - 2 ^ width))) (x % 2 ^ own) (2 ^ own - 2 ^ width) small high in
    ap (λ m. nat_eq (bit_and x m) 0) turned
    ∙ ap (λ y. nat_eq (bit_and y (number_l (2 ^ own) (replicate n (2 ^ own - 2 ^ width)) * 2 ^ own + (2 ^ own - 2 ^ width))) 0) x_is
    ∙ ap (λ m. nat_eq m 0) blocks
    ∙ and_zero (bit_and (x / 2 ^ own) (number_l (2 ^ own) (replicate n (2 ^ own - 2 ^ width)))) (2 ^ own) (bit_and (x % 2 ^ own) (2 ^ own - 2 ^ width)) (pow_pos own)
    ∙ ap (λ b. b && nat_eq (bit_and (x / 2 ^ own) (number_l (2 ^ own) (replicate n (2 ^ own - 2 ^ width)))) 0) (high_part (x % 2 ^ own) own width wider small)
    ∙ ap (λ b. nat_lt (x % 2 ^ own) (2 ^ width) && b) (high_parts own width n (x / 2 ^ own) wider)
  where
    turn : (h p n : ℕ) → h + p * n ≡ n * p + h
    turn h p n = grind arith

pub number_times : (p n h : ℕ) → number_l p (replicate n 1) * h ≡ number_l p (replicate n h)
number_times p zero h = omega arith
number_times p (suc n) h = spread p (number_l p (replicate n 1)) h ∙ ap (λ m. h + p * m) (number_times p n h)
  where
    spread : (p m h : ℕ) → (1 + p * m) * h ≡ h + p * (m * h)
    spread p m h = grind arith

-- of the first of them
no_fields : (own width n : ℕ) → list_all (λ gap. nat_lt gap (2 ^ width)) (fields own n 0) ≡ true
unfolding fields
no_fields own width zero = refl
no_fields own width (suc n) =
    let low : 0 % 2 ^ own ≡ 0 = mod-eq_of_lt (pow_pos own) in
    let high : 0 / 2 ^ own ≡ 0 = div-eq_of_lt (pow_pos own) in
    let some = pow_pos width in
    let t : nat_lt 0 (2 ^ width) ≡ true = grind (arith, nat_tests) in
    rw (low, high, t) (no_fields own width n)

pub first_fields : (own width n c x : ℕ) → n ≤ c → list_all (λ gap. nat_lt gap (2 ^ width)) (fields own c (x % 2 ^ (own * n))) ≡ list_all (λ gap. nat_lt gap (2 ^ width)) (fields own n x)
unfolding fields
first_fields own width zero c x few =
    let none : x % 2 ^ (own * 0) ≡ 0 = ap (λ k. x % 2 ^ k) (let e : own * 0 ≡ 0 = omega arith in e) ∙ mod-one x in
    rw none (no_fields own width c)
first_fields own width (suc n) zero x few = absurd (omega arith)
first_fields own width (suc n) (suc c) x few =
    let size : own * suc n ≡ own * n + own = mul-suc own n in
    let low : x % 2 ^ (own * suc n) % 2 ^ own ≡ x % 2 ^ own = ap (λ k. x % 2 ^ k % 2 ^ own) size ∙ ap (λ y. y % 2 ^ own) (mod-pow-add x (own * n) own) ∙ mod-mul-add (x / 2 ^ own % 2 ^ (own * n)) (2 ^ own) (x % 2 ^ own) (mod-lt x (pow_pos own)) in
    let high : x % 2 ^ (own * suc n) / 2 ^ own ≡ x / 2 ^ own % 2 ^ (own * n) = ap (λ k. x % 2 ^ k / 2 ^ own) size ∙ field_of x (own * n) own in
    rw (low, high) (ap (λ b. nat_lt (x % 2 ^ own) (2 ^ width) && b) (first_fields own width n c (x / 2 ^ own) (omega arith)))

-- where a width is no less than their own
pub all_narrow : (own width n x : ℕ) → own ≤ width → list_all (λ gap. nat_lt gap (2 ^ width)) (fields own n x) ≡ true
unfolding fields
all_narrow own width n x within =
    let two : 0 < 2 = omega arith in
    Below-wider (2 ^ own) (2 ^ width) (digits_l (2 ^ own) n x) (pow-le-pow_right two within) (digits_below (2 ^ own) n x (pow_pos own))

Below-replicate : (p n h : ℕ) → h < p → Below p (replicate n h)
Below-replicate p zero h small = refl
Below-replicate p (suc n) h small = Below-cons p h (replicate n h) small (Below-replicate p n h small)

-- so many numbers of so many bits are below the power of all their bits
pub number_fits : (own n h : ℕ) → h < 2 ^ own → number_l (2 ^ own) (replicate n h) < 2 ^ (own * n)
number_fits own n h small = omega (arith, number_below (2 ^ own) (replicate n h) (Below-replicate (2 ^ own) n h small), ap (λ k. (2 ^ own) ^ k) (length-replicate n h), power_of_power 2 own n)
