-- Numbers, and their digits to a base, the lowest first.
use Rattle.shared_lemmas.proofs.Common.{◌≡◌, ℕ, zero, suc, ◌+◌, ◌*◌, ◌/◌, ◌%◌, ◌^◌, ◌<◌, ◌≤◌, true, List, [], ◌∷◌, length, refl, sym, ap, ◌∙◌, arith, nat_lt, list_all, number_l, digits_l, nat_tests, add-mul-div_left, add-mul-mod_self_left, mod-eq_of_lt, div-eq_of_lt, pow-succ', pow-suc, pow-zero}
use Rattle.shared_lemmas.proofs.Common.{mul-suc, mod-add-div, mod-lt, div_below, mul-le, pow-add, and_parts}

-- each number is below p
abbrev pub Below : ℕ → List ℕ → Type 0
Below p xs = list_all (λ x. nat_lt x p) xs ≡ true

pub Below-head : (p x : ℕ) (xs : List ℕ) → Below p (x ∷ xs) → x < p
Below-head p x xs all = let t = (and_parts (nat_lt x p) (list_all (λ x. nat_lt x p) xs) all).0 in grind (arith, nat_tests)

pub Below-tail : (p x : ℕ) (xs : List ℕ) → Below p (x ∷ xs) → Below p xs
Below-tail p x xs all = (and_parts (nat_lt x p) (list_all (λ x. nat_lt x p) xs) all).1

pub Below-cons : (p x : ℕ) (xs : List ℕ) → x < p → Below p xs → Below p (x ∷ xs)
Below-cons p x xs small all = let t : nat_lt x p ≡ true = grind (arith, nat_tests) in rw t all

pub Below-wider : (p q : ℕ) (xs : List ℕ) → p ≤ q → Below p xs → Below q xs
Below-wider p q [] wider all = refl
Below-wider p q (x ∷ xs) wider all = Below-cons q x xs (omega (arith, Below-head p x xs all)) (Below-wider p q xs wider (Below-tail p x xs all))

pub first_digit : (p x n : ℕ) → x < p → (x + p * n) % p ≡ x
first_digit p x n small = add-mul-mod_self_left x p n ∙ mod-eq_of_lt small

pub later_digits : (p x n : ℕ) → x < p → (x + p * n) / p ≡ n
later_digits p x n small =
    let some : 0 < p = omega arith in
    let none : x / p ≡ 0 = div-eq_of_lt small in
    add-mul-div_left x n some ∙ (let e : x / p + n ≡ n = omega arith in e)

-- the digits of the number of digits
pub digits_number : (p : ℕ) (xs : List ℕ) → Below p xs → digits_l p (length xs) (number_l p xs) ≡ xs
digits_number p [] all = refl
digits_number p (x ∷ xs) all =
    let small = Below-head p x xs all in
    rw (first_digit p x (number_l p xs) small, later_digits p x (number_l p xs) small) (ap (λ (r : List ℕ). x ∷ r) (digits_number p xs (Below-tail p x xs all)))

pub number_below : (p : ℕ) (xs : List ℕ) → Below p xs → number_l p xs < p ^ length xs
number_below p [] all = omega (arith, pow-zero p)
number_below p (x ∷ xs) all =
    let small = Below-head p x xs all in
    let rest = number_below p xs (Below-tail p x xs all) in
    step p x (number_l p xs) (p ^ length xs) (p ^ suc (length xs)) small rest (pow-succ' p (length xs))
  where
    step : (p x n m e : ℕ) → x < p → n < m → e ≡ p * m → x + p * n < e
    step p x n m e small rest is = let le = mul-le p (suc n) p m (omega arith) (omega arith) in omega (arith, le, mul-suc p n, is)

pub length-digits : (p n x : ℕ) → length (digits_l p n x) ≡ n
length-digits p zero x = refl
length-digits p (suc n) x = ap suc (length-digits p n (x / p))

pub digits_below : (p n x : ℕ) → 0 < p → Below p (digits_l p n x)
digits_below p zero x some = refl
digits_below p (suc n) x some = Below-cons p (x % p) (digits_l p n (x / p)) (mod-lt x some) (digits_below p n (x / p) some)

-- the number of the digits of a number that has no more digits
pub number_digits : (p n x : ℕ) → 0 < p → x < p ^ n → number_l p (digits_l p n x) ≡ x
number_digits p zero x some small = omega (arith, pow-zero p)
number_digits p (suc n) x some small =
    let fits : x < p ^ n * p = omega (arith, pow-suc p n) in
    ap (λ r. x % p + p * r) (number_digits p n (x / p) some (div_below x p (p ^ n) some fits)) ∙ mod-add-div x p

pub power_of_power : (b w n : ℕ) → (b ^ w) ^ n ≡ b ^ (w * n)
power_of_power b w zero = let e : w * 0 ≡ 0 = omega arith in rw e (pow-zero (b ^ w) ∙ sym (pow-zero b))
power_of_power b w (suc n) = pow-suc (b ^ w) n ∙ ap (λ x. x * b ^ w) (power_of_power b w n) ∙ sym (pow-add b (w * n) w) ∙ ap (λ x. b ^ x) (sym (mul-suc w n))
