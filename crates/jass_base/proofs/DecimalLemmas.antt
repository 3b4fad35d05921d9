-- Digit by digit, and the number of all of them.
use Rattle.shared_lemmas.proofs.Common.{◌≡◌, ◌==◌, ℕ, ◌+◌, ◌*◌, ◌^◌, ◌<◌, ◌≤◌, Bool, true, false, ◌&&◌, List, [], ◌∷◌, length, Some, None, nat_lt, nat_le, if◌then◌else◌, refl, sym, ap, ◌∙◌, arith, digit_value, is_ascii_digit, list_all, digits_value, digits_value_after, nat_tests, and-false}
use borrow.Author.Tests.{ltb-true, ltb-false}
use Rattle.jass_base.specs.Decimal.{decimal_of}
use Rattle.jass_base.specs.Private.Decimal.{value_after}

-- more digits make no smaller number
after_ge : (v : ℕ) (bs : List ℕ) → v ≤ digits_value_after 10 v bs
after_ge v [] = omega arith
after_ge v (b ∷ bs) = omega (arith, after_ge (v * 10 + digit_value b) bs)

too_large : (n : ℕ) → 2 ^ 64 ≤ n → nat_lt n (2 ^ 64) ≡ false
too_large n large = grind (arith, nat_tests)

-- one digit more, or the end of the number
step : (d n : Bool) (v : ℕ) (bs : List ℕ) → nat_lt v (2 ^ 64) ≡ n →
    (v < 2 ^ 64 → value_after v bs ≡ (if list_all is_ascii_digit bs && nat_lt (digits_value_after 10 v bs) (2 ^ 64) then Some (digits_value_after 10 v bs) else None)) →
    (if d && n then value_after v bs else None) ≡ (if d && list_all is_ascii_digit bs && nat_lt (digits_value_after 10 v bs) (2 ^ 64) then Some (digits_value_after 10 v bs) else None)
step false n v bs is rest = refl
step true true v bs is rest = rest (ltb-true v (2 ^ 64) is)
step true false v bs is rest =
    let large : 2 ^ 64 ≤ digits_value_after 10 v bs = omega (arith, after_ge v bs, ltb-false v (2 ^ 64) is) in
    sym (ap (λ b. if b then Some (digits_value_after 10 v bs) else None) (ap (λ b. list_all is_ascii_digit bs && b) (too_large (digits_value_after 10 v bs) large) ∙ and-false (list_all is_ascii_digit bs)))

small_enough : (v : ℕ) → v < 2 ^ 64 → nat_lt v (2 ^ 64) ≡ true
small_enough v small = grind (arith, nat_tests)

-- the number of all digits, where they are digits and it is small enough
pub value_after-is : (v : ℕ) (bs : List ℕ) → v < 2 ^ 64 → value_after v bs ≡ (if list_all is_ascii_digit bs && nat_lt (digits_value_after 10 v bs) (2 ^ 64) then Some (digits_value_after 10 v bs) else None)
value_after-is v [] small = sym (ap (λ b. if b then Some v else None) (small_enough v small))
value_after-is v (b ∷ bs) small = step (is_ascii_digit b) (nat_lt (v * 10 + digit_value b) (2 ^ 64)) (v * 10 + digit_value b) bs refl (value_after-is (v * 10 + digit_value b) bs)

at_least_one : (n : ℕ) → (n == 0) ≡ false → nat_le 1 n ≡ true
at_least_one n some = grind (arith, nat_tests)

at_most : (m n : ℕ) → m ≤ n → nat_le m n ≡ true
at_most m n h = grind (arith, nat_tests)

-- where there are 1 to 20 bytes, the number of all digits is that of the decimal
pub decimal_of-value : (bs : List ℕ) → (length bs == 0) ≡ false → length bs ≤ 20 → value_after 0 bs ≡ decimal_of bs
decimal_of-value bs some few =
    let within : (nat_le 1 (length bs) && nat_le (length bs) 20) ≡ true = rw (at_least_one (length bs) some, at_most (length bs) 20 few) refl in
    value_after-is 0 bs (omega arith)
    ∙ sym (ap (λ b. if b && list_all is_ascii_digit bs && nat_lt (digits_value 10 bs) (2 ^ 64) then Some (digits_value 10 bs) else None) within)
