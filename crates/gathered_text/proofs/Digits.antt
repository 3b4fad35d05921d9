-- How many digits a number has, and where they are written.
use Rattle.shared_lemmas.proofs.Common.{◌≡◌, ℕ, ◌+◌, ◌/◌, ◌%◌, ◌<◌, ◌≤◌, ◌^◌, List, [], ◌∷◌, ◌++◌, take, drop, decimal, length, ap, subst, ◌∙◌, arith, take-add, take-append_seam, length-decimal-le, decimal_digit}
use Rattle.itoa.proofs.Decimal.{length_one, length_two, length_pair, decimal_pair}

pub at_most_twenty : (n : ℕ) → n < 2 ^ 64 → length (decimal n) ≤ 20
at_most_twenty n fits = length-decimal-le 20 n (omega arith) (omega (arith, fits)) fits

pub three : (n : ℕ) → 100 ≤ n → n < 1000 → length (decimal n) ≡ 3
three n low high = omega (arith, length_pair n low (omega arith), length_one (n / 100) (omega arith))

pub decimal_three : (n : ℕ) → 100 ≤ n → n < 1000 → decimal n ≡ (48 + n / 100) ∷ (48 + n / 10 % 10) ∷ (48 + n % 10) ∷ []
decimal_three n low high =
    let middle : n % 100 / 10 ≡ n / 10 % 10 = omega arith in
    let last : n % 100 % 10 ≡ n % 10 = omega arith in
    rw (decimal_pair n low (omega arith), decimal_digit (n / 100) (omega arith), middle, last)

pub four : (n : ℕ) → 1000 ≤ n → n < 10000 → length (decimal n) ≡ 4
four n low high = omega (arith, length_pair n (omega arith) (omega arith), length_two (n / 100) (omega arith) (omega arith))

-- digits that end behind a place by as many bytes as they are begin there
pub digits_behind : (old new digits : List ℕ) (start count result : ℕ) → count ≡ length digits → result + length digits ≡ start + count
    → drop result new ≡ digits ++ drop (start + count) old → take result new ≡ take result old → take (start + count) new ≡ take start old ++ digits
digits_behind old new digits start count result size place written before =
    let same : result ≡ start = omega (arith, size, place) in
    ap (λ n. take (start + n) new) size
    ∙ take-add start (length digits) new
    ∙ ap (λ (xs : List ℕ). xs ++ take (length digits) (drop start new)) (subst (λ n. take n new ≡ take n old) same before)
    ∙ ap (λ (xs : List ℕ). take start old ++ take (length digits) xs) (subst (λ n. drop n new ≡ digits ++ drop (start + count) old) same written)
    ∙ ap (λ (xs : List ℕ). take start old ++ xs) (take-append_seam digits (drop (start + count) old))
