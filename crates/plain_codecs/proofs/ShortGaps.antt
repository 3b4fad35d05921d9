-- Gaps of up to three bytes, read together.
use Rattle.shared_lemmas.proofs.Common.{◌≡◌, ℕ, zero, suc, ◌+◌, ◌-◌, ◌*◌, ◌/◌, ◌%◌, ◌<◌, ◌≤◌, ◌==◌, ◌||◌, Bool, true, false, List, ◌∷◌, length, get_or, take, drop, Err, sym, ap, ◌∙◌, refl, subst, arith, nat_lt, IsOk, and_zero_l, nat_tests, drop_more, get_or-take, length-take}
use Rattle.jass_base.specs.declared.payload_fault.PayloadFault.TheVariants.{Shape}
use Rattle.std.specs.Int.Bits.{bit_and}
use Rattle.jass_base.specs.Gaps.{gap_in}
use Rattle.plain_codecs.proofs.Reading.{one_small}
use Rattle.jass_base.proofs.GapSpelling.{spelled}

two_small : (a b : ℕ) (bytes : List ℕ) → 128 ≤ a → 1 ≤ b → b < 128 → gap_in (a ∷ b ∷ bytes) ≡ spelled (a % 128 + 128 * b) 2
unfolding gap_in
two_small a b bytes more some small =
    let first : nat_lt a 128 ≡ false = grind (arith, nat_tests) in
    let second : nat_lt b 128 ≡ true = grind (arith, nat_tests) in
    let not_zero : (b == 0) ≡ false = grind (arith, nat_tests) in
    rw (first, second, not_zero) refl

three_small : (a b e : ℕ) (bytes : List ℕ) → 128 ≤ a → 128 ≤ b → 1 ≤ e → e < 128 → gap_in (a ∷ b ∷ e ∷ bytes) ≡ spelled (a % 128 + 128 * (b % 128 + 128 * e)) 3
unfolding gap_in
three_small a b e bytes more most some small =
    let first : nat_lt a 128 ≡ false = grind (arith, nat_tests) in
    let second : nat_lt b 128 ≡ false = grind (arith, nat_tests) in
    let third : nat_lt e 128 ≡ true = grind (arith, nat_tests) in
    let not_zero : (e == 0) ≡ false = grind (arith, nat_tests) in
    let neither : (b % 128 + 128 * e == 0) ≡ false = grind (arith, nat_tests) in
    rw (first, second, third, not_zero, neither) refl

-- a gap of two bytes has a second one
two_some : (a : ℕ) (bytes : List ℕ) → 128 ≤ a → gap_in (a ∷ 0 ∷ bytes) ≡ Err Shape
unfolding gap_in
two_some a bytes more = let first : nat_lt a 128 ≡ false = grind (arith, nat_tests) in rw first refl

two_known : (a b : ℕ) (bytes : List ℕ) → 128 ≤ a → b < 128 → IsOk (gap_in (a ∷ b ∷ bytes)) → gap_in (a ∷ b ∷ bytes) ≡ spelled (a % 128 + 128 * b) 2
two_known a zero bytes more small known = let bad : false ≡ true = subst IsOk (two_some a bytes more) known in cc
two_known a (suc b) bytes more small known = two_small a (suc b) bytes more (omega arith) small

-- a gap that is known, where one of its first two bytes is the last
module _ (bytes : List ℕ) (at first second two gap next : ℕ) (room : at + 2 ≤ length bytes)
    (first_is : first ≡ get_or bytes at 0) (second_is : second ≡ get_or bytes (at + 1) 0) (first_fits : first < 256)
    (two_is : two ≡ first / 128) (gap_is : gap ≡ first % 128 + two * second * 128) (next_is : next ≡ at + 1 + two)
    (known : IsOk (gap_in (drop at bytes))) where
  bytes_are : drop at bytes ≡ first ∷ second ∷ drop (at + 1 + 1) bytes
  bytes_are =
      drop_more bytes at 0 (omega (arith, room))
      ∙ ap (λ (xs : List ℕ). get_or bytes at 0 ∷ xs) (drop_more bytes (at + 1) 0 (omega (arith, room)))
      ∙ ap (λ b. b ∷ get_or bytes (at + 1) 0 ∷ drop (at + 1 + 1) bytes) (sym first_is)
      ∙ ap (λ b. first ∷ b ∷ drop (at + 1 + 1) bytes) (sym second_is)

  known_one : first < 128 → gap_in (drop at bytes) ≡ spelled gap (next - at)
  known_one small =
      let no_two : two ≡ 0 = omega (arith, two_is, small) in
      let none : two * second * 128 ≡ 0 * second * 128 = ap (λ n. n * second * 128) no_two in
      let value : first ≡ gap = omega (arith, gap_is, none, small) in
      let size : 1 ≡ next - at = omega (arith, next_is, no_two) in
      ap gap_in bytes_are ∙ one_small first (second ∷ drop (at + 1 + 1) bytes) small ∙ ap (λ n. spelled n 1) value ∙ ap (spelled gap) size

  known_two : 128 ≤ first → second < 128 → gap_in (drop at bytes) ≡ spelled gap (next - at)
  known_two more small =
      let one_two : two ≡ 1 = omega (arith, two_is, more, first_fits) in
      let is : two * second * 128 ≡ 1 * second * 128 = ap (λ n. n * second * 128) one_two in
      let value : first % 128 + 128 * second ≡ gap = omega (arith, gap_is, is) in
      let size : 2 ≡ next - at = omega (arith, next_is, one_two) in
      ap gap_in bytes_are ∙ two_known first second (drop (at + 1 + 1) bytes) more small (subst (λ (xs : List ℕ). IsOk (gap_in xs)) bytes_are known)
      ∙ ap (λ n. spelled n 2) value ∙ ap (spelled gap) size

  pub known_short : (nat_lt first 128 || nat_lt second 128) ≡ true → gap_in (drop at bytes) ≡ spelled gap (next - at)
  known_short short = go (nat_lt first 128) (nat_lt second 128) refl refl short
    where
      go : (a b : Bool) → nat_lt first 128 ≡ a → nat_lt second 128 ≡ b → (a || b) ≡ true → gap_in (drop at bytes) ≡ spelled gap (next - at)
      go true b is also either = known_one (grind (arith, nat_tests))
      go false true is also either = known_two (grind (arith, nat_tests)) (grind (arith, nat_tests))
      go false false is also either = let bad : false ≡ true = either in cc

-- the next byte of a front of the bytes
front_more : (bytes : List ℕ) (end at : ℕ) → at < end → at < length bytes → drop at (take end bytes) ≡ get_or bytes at 0 ∷ drop (at + 1) (take end bytes)
front_more bytes end at inside within =
    drop_more (take end bytes) at 0 long ∙ ap (λ b. b ∷ drop (at + 1) (take end bytes)) (get_or-take end bytes at 0 inside)
  where
    long : at < length (take end bytes)
    long = omega (arith, length-take end bytes)

module _ (bytes : List ℕ) (at end first second third two three middle high : ℕ) (room : at + 3 ≤ length bytes)
    (first_is : first ≡ get_or bytes at 0) (second_is : second ≡ get_or bytes (at + 1) 0) (third_is : third ≡ get_or bytes (at + 2) 0)
    (first_fits : first < 256) (second_fits : second < 256)
    (two_is : two ≡ first / 128) (three_is : three ≡ bit_and two (second / 128)) (middle_is : middle ≡ two * (second % 128)) (high_is : high ≡ three * third)
    (high_small : high < 128) (third_some : three ≤ third) (second_some : two ≤ second) (inside : at + (1 + two + three) ≤ end) where
  one_read : first < 128 → gap_in (drop at (take end bytes)) ≡ spelled (first % 128 + middle * 128 + high * 16384) (1 + two + three)
  one_read small =
      let no_two : two ≡ 0 = omega (arith, two_is, small) in
      let no_three : three ≡ 0 = three_is ∙ ap (λ n. bit_and n (second / 128)) no_two ∙ and_zero_l (second / 128) in
      let no_middle : middle ≡ 0 = omega (arith, middle_is ∙ ap (λ n. n * (second % 128)) no_two) in
      let no_high : high ≡ 0 = omega (arith, high_is ∙ ap (λ n. n * third) no_three) in
      let value : first ≡ first % 128 + middle * 128 + high * 16384 = omega (arith, small, no_middle, no_high) in
      let size : 1 ≡ 1 + two + three = omega (arith, no_two, no_three) in
      ap gap_in (front_more bytes end at (omega (arith, inside)) (omega (arith, room)))
      ∙ ap (λ b. gap_in (b ∷ drop (at + 1) (take end bytes))) (sym first_is)
      ∙ one_small first (drop (at + 1) (take end bytes)) small
      ∙ ap (λ n. spelled n 1) value
      ∙ ap (spelled (first % 128 + middle * 128 + high * 16384)) size

  two_read : 128 ≤ first → second < 128 → gap_in (drop at (take end bytes)) ≡ spelled (first % 128 + middle * 128 + high * 16384) (1 + two + three)
  two_read more small =
      let one_two : two ≡ 1 = omega (arith, two_is, more, first_fits) in
      let no_top : second / 128 ≡ 0 = omega (arith, small) in
      let no_three : three ≡ 0 = three_is ∙ ap (λ n. bit_and n (second / 128)) one_two ∙ ap (bit_and 1) no_top in
      let is_middle : middle ≡ second = omega (arith, middle_is ∙ ap (λ n. n * (second % 128)) one_two, small) in
      let no_high : high ≡ 0 = omega (arith, high_is ∙ ap (λ n. n * third) no_three) in
      let value : first % 128 + 128 * second ≡ first % 128 + middle * 128 + high * 16384 = omega (arith, is_middle, no_high) in
      let size : 2 ≡ 1 + two + three = omega (arith, one_two, no_three) in
      ap gap_in (front_more bytes end at (omega (arith, inside)) (omega (arith, room)))
      ∙ ap (λ (xs : List ℕ). gap_in (get_or bytes at 0 ∷ xs)) (front_more bytes end (at + 1) (omega (arith, inside, one_two)) (omega (arith, room)))
      ∙ ap (λ b. gap_in (b ∷ get_or bytes (at + 1) 0 ∷ drop (at + 1 + 1) (take end bytes))) (sym first_is)
      ∙ ap (λ b. gap_in (first ∷ b ∷ drop (at + 1 + 1) (take end bytes))) (sym second_is)
      ∙ two_small first second (drop (at + 1 + 1) (take end bytes)) more (omega (arith, second_some, one_two)) small
      ∙ ap (λ n. spelled n 2) value
      ∙ ap (spelled (first % 128 + middle * 128 + high * 16384)) size

  three_read : 128 ≤ first → 128 ≤ second → gap_in (drop at (take end bytes)) ≡ spelled (first % 128 + middle * 128 + high * 16384) (1 + two + three)
  three_read more most =
      let one_two : two ≡ 1 = omega (arith, two_is, more, first_fits) in
      let one_top : second / 128 ≡ 1 = omega (arith, most, second_fits) in
      let one_three : three ≡ 1 = three_is ∙ ap (λ n. bit_and n (second / 128)) one_two ∙ ap (bit_and 1) one_top in
      let is_middle : middle ≡ second % 128 = omega (arith, middle_is ∙ ap (λ n. n * (second % 128)) one_two) in
      let is_high : high ≡ third = omega (arith, high_is ∙ ap (λ n. n * third) one_three) in
      let value : first % 128 + 128 * (second % 128 + 128 * third) ≡ first % 128 + middle * 128 + high * 16384 = omega (arith, is_middle, is_high) in
      let size : 3 ≡ 1 + two + three = omega (arith, one_two, one_three) in
      ap gap_in (front_more bytes end at (omega (arith, inside)) (omega (arith, room)))
      ∙ ap (λ (xs : List ℕ). gap_in (get_or bytes at 0 ∷ xs)) (front_more bytes end (at + 1) (omega (arith, inside, one_two)) (omega (arith, room)))
      ∙ ap (λ (xs : List ℕ). gap_in (get_or bytes at 0 ∷ get_or bytes (at + 1) 0 ∷ xs)) (front_more bytes end (at + 1 + 1) (omega (arith, inside, one_two, one_three)) (omega (arith, room)))
      ∙ ap (λ b. gap_in (b ∷ get_or bytes (at + 1) 0 ∷ get_or bytes (at + 1 + 1) 0 ∷ drop (at + 1 + 1 + 1) (take end bytes))) (sym first_is)
      ∙ ap (λ b. gap_in (first ∷ b ∷ get_or bytes (at + 1 + 1) 0 ∷ drop (at + 1 + 1 + 1) (take end bytes))) (sym second_is)
      ∙ ap (λ i. gap_in (first ∷ second ∷ get_or bytes i 0 ∷ drop (at + 1 + 1 + 1) (take end bytes))) next
      ∙ ap (λ b. gap_in (first ∷ second ∷ b ∷ drop (at + 1 + 1 + 1) (take end bytes))) (sym third_is)
      ∙ three_small first second third (drop (at + 1 + 1 + 1) (take end bytes)) more most (omega (arith, third_some, one_three)) (omega (arith, high_small, is_high))
      ∙ ap (λ n. spelled n 3) value
      ∙ ap (spelled (first % 128 + middle * 128 + high * 16384)) size
    where
      next : at + 1 + 1 ≡ at + 2
      next = omega arith

  pub short_read : gap_in (drop at (take end bytes)) ≡ spelled (first % 128 + middle * 128 + high * 16384) (1 + two + three)
  short_read = go (nat_lt first 128) (nat_lt second 128) refl refl
    where
      go : (a b : Bool) → nat_lt first 128 ≡ a → nat_lt second 128 ≡ b → gap_in (drop at (take end bytes)) ≡ spelled (first % 128 + middle * 128 + high * 16384) (1 + two + three)
      go true b is also = one_read (grind (arith, nat_tests))
      go false true is also = two_read (grind (arith, nat_tests)) (grind (arith, nat_tests))
      go false false is also = three_read (grind (arith, nat_tests)) (grind (arith, nat_tests))
