-- A field that is read from its parts.
use Rattle.shared_lemmas.proofs.Common.{◌≡◌, ℕ, ◌+◌, ◌-◌, ◌/◌, ◌%◌, ◌≤◌, true, false, List, length, drop, Ok, Err, refl, ap, arith, nat_lt, ◌==◌, ◌||◌, slice_range, nat_tests, length-drop, drop-drop}
use Rattle.jass_base.specs.Wire.{WireValue, Eight, Four}
use Rattle.wire_fields.specs.declared.fault.WireWhy.{WireWhy}
use Rattle.wire_fields.specs.declared.fault.WireWhy.TheVariants.{FieldNumber}
use Rattle.wire_fields.specs.Reading.{◌>>=◌, varint_at, some_at, value_at, field_at}

pub some_there : (bytes : List ℕ) (from n : ℕ) → from + n ≤ length bytes → some_at n (drop from bytes) ≡ Ok (slice_range bytes from (from + n), drop (from + n) bytes)
some_there bytes from n inside =
    let long : nat_lt (length (drop from bytes)) n ≡ false = let l = length-drop from bytes in grind (arith, nat_tests) in
    let size : from + n - from ≡ n = omega arith in
    rw (long, size, drop-drop n from bytes) refl

pub eight_there : (wire : ℕ) (bytes : List ℕ) (from : ℕ) → wire ≡ 1 → from + 8 ≤ length bytes → value_at wire (drop from bytes) ≡ Ok (Eight (slice_range bytes from (from + 8)), drop (from + 8) bytes)
eight_there wire bytes from is inside = rw is (ap (λ read. read >>= λ x. Ok (Eight x.0, x.1)) (some_there bytes from 8 inside))

pub four_there : (wire : ℕ) (bytes : List ℕ) (from : ℕ) → wire ≡ 5 → from + 4 ≤ length bytes → value_at wire (drop from bytes) ≡ Ok (Four (slice_range bytes from (from + 4)), drop (from + 4) bytes)
four_there wire bytes from is inside = rw is (ap (λ read. read >>= λ x. Ok (Four x.0, x.1)) (some_there bytes from 4 inside))

-- a bad tag, and a tag with a bad number
pub bad_tag : (s : List ℕ) (why : WireWhy) → varint_at s ≡ Err why → field_at s ≡ Err why
unfolding field_at
bad_tag s why is = rw is refl

pub bad_number : (s : List ℕ) (tag : ℕ) (rest : List ℕ) → varint_at s ≡ Ok (tag, rest) → (tag / 8 == 0 || nat_lt 536870911 (tag / 8)) ≡ true → field_at s ≡ Err FieldNumber
unfolding field_at
bad_number s tag rest is bad = rw (is, bad) refl

module _ (s : List ℕ) (tag : ℕ) (rest : List ℕ) (is : varint_at s ≡ Ok (tag, rest)) (some : 1 ≤ tag / 8) (few : tag / 8 ≤ 536870911) where
  good : (tag / 8 == 0 || nat_lt 536870911 (tag / 8)) ≡ false
  good = grind (arith, nat_tests)

  pub bad_value : (why : WireWhy) → value_at (tag % 8) rest ≡ Err why → field_at s ≡ Err why
  unfolding field_at
  bad_value why v = let g = good in rw (is, g) (ap (λ read. read >>= λ x. Ok (record { number = tag / 8; value = x.0 }, x.1)) v)

  pub field_there : (value : WireValue) (after : List ℕ) → value_at (tag % 8) rest ≡ Ok (value, after) → field_at s ≡ Ok (record { number = tag / 8; value = value }, after)
  unfolding field_at
  field_there value after v = let g = good in rw (is, g) (ap (λ read. read >>= λ x. Ok (record { number = tag / 8; value = x.0 }, x.1)) v)
