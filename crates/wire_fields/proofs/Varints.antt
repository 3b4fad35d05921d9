-- A varint that is read group by group.
use Rattle.shared_lemmas.proofs.Common.{◌≡◌, ℕ, suc, ◌+◌, ◌-◌, ◌*◌, ◌^◌, ◌%◌, ◌<◌, ◌≤◌, true, false, List, [], length, get_or, take, drop, Result, Ok, Err, refl, sym, ap, ◌∙◌, add-one, arith, drop-cons, nat_lt, nat_tests, drop_all, take_all, length-drop, drop-drop, pow-suc}
use Rattle.shared_lemmas.proofs.Numbers.{value_small}
use Rattle.wire_fields.specs.declared.fault.WireWhy.{WireWhy}
use Rattle.wire_fields.specs.declared.fault.WireWhy.TheVariants.{Cut, LongVarint}
use Rattle.wire_fields.specs.Reading.{◌>>=◌, varint_at, varint_within}

-- what is read behind lower groups of this value, at this scale
abbrev pub with_low : ℕ → ℕ → Result (ℕ × List ℕ) WireWhy → Result (ℕ × List ℕ) WireWhy
with_low value scale read = read >>= λ x. Ok (value + scale * x.0, x.1)

pub low_none : (read : Result (ℕ × List ℕ) WireWhy) → with_low 0 1 read ≡ read
low_none (Ok x) = let n : 0 + 1 * x.0 ≡ x.0 = omega arith in rw n refl
low_none (Err why) = refl

pub low_more : (value scale group : ℕ) (read : Result (ℕ × List ℕ) WireWhy) → with_low value scale (read >>= λ x. Ok (group + 128 * x.0, x.1)) ≡ with_low (value + group * scale) (scale * 128) read
low_more value scale group (Ok x) = let n : value + scale * (group + 128 * x.0) ≡ value + group * scale + scale * 128 * x.0 = grind arith in rw n refl
low_more value scale group (Err why) = refl

small_byte : (b : ℕ) → 128 ≤ b → b < 256 → b % 128 ≡ b - 128
small_byte b high low = omega arith

-- the bytes from a place on, one by one
pub cut_short : (s : List ℕ) (i : ℕ) → i < 10 → length s ≤ i → varint_within (10 - i) (drop i s) ≡ Err Cut
cut_short s i few short = let left : 10 - i ≡ suc (9 - i) = omega arith in let none : drop i s ≡ [] = drop_all i s short in rw (left, none) refl

pub last_group : (s : List ℕ) (i : ℕ) → i < 9 → i < length s → get_or s i 0 < 128 → varint_within (10 - i) (drop i s) ≡ Ok (get_or s i 0, drop (i + 1) s)
last_group s i few inside small =
    let left : 10 - i ≡ suc (suc (8 - i)) = omega arith in
    let low : nat_lt (get_or s i 0) 128 ≡ true = grind (arith, nat_tests) in
    rw (add-one, left, drop-cons s i 0 inside, low) refl

pub one_group : (s : List ℕ) (i : ℕ) → i < 9 → i < length s → 128 ≤ get_or s i 0 → get_or s i 0 < 256
    → varint_within (10 - i) (drop i s) ≡ (varint_within (10 - (i + 1)) (drop (i + 1) s) >>= λ x. Ok (get_or s i 0 - 128 + 128 * x.0, x.1))
one_group s i few inside high byte =
    let left : 10 - i ≡ suc (suc (8 - i)) = omega arith in
    let next : 10 - (i + 1) ≡ suc (8 - i) = omega arith in
    let large : nat_lt (get_or s i 0) 128 ≡ false = grind (arith, nat_tests) in
    rw (next, add-one, left, drop-cons s i 0 inside, large, small_byte (get_or s i 0) high byte) refl

pub tenth_small : (s : List ℕ) (i : ℕ) → i ≡ 9 → 9 < length s → get_or s 9 0 < 2 → varint_within (10 - i) (drop i s) ≡ Ok (get_or s 9 0, drop 10 s)
tenth_small s i is inside small = let low : nat_lt (get_or s 9 0) 2 ≡ true = grind (arith, nat_tests) in rw (is, drop-cons s 9 0 inside, low) refl

pub tenth_large : (s : List ℕ) (i : ℕ) → i ≡ 9 → 9 < length s → 2 ≤ get_or s 9 0 → varint_within (10 - i) (drop i s) ≡ Err LongVarint
tenth_large s i is inside large = let high : nat_lt (get_or s 9 0) 2 ≡ false = grind (arith, nat_tests) in rw (is, drop-cons s 9 0 inside, high) refl

-- a slice to the end
pub to_end : (bytes : List ℕ) (at : ℕ) → take (length bytes - at) (drop at bytes) ≡ drop at bytes
to_end bytes at = take_all (length bytes - at) (drop at bytes) (omega (arith, length-drop at bytes))

pub length-rest : (bytes : List ℕ) (at : ℕ) → length (take (length bytes - at) (drop at bytes)) ≡ length bytes - at
length-rest bytes at = ap (λ (s : List ℕ). length s) (to_end bytes at) ∙ length-drop at bytes

-- the number of the groups before a place, and what is read behind them
pub record SoFar (s : List ℕ) (i value scale : ℕ) : Type 0 where
  pub scale_is : scale ≡ 128 ^ i
  pub below : value < scale
  pub inside : i ≤ length s
  pub read : varint_at s ≡ with_low value scale (varint_within (10 - i) (drop i s))

-- a slice from a place to the end
abbrev pub rest_at : List ℕ → ℕ → List ℕ
rest_at bytes at = take (length bytes - at) (drop at bytes)

pub at_start : (s : List ℕ) → SoFar s 0 0 1
unfolding varint_at
at_start s = record { scale_is = refl; below = omega arith; inside = omega arith; read = sym (low_none (varint_within 10 s)) }

pub one_more : (s : List ℕ) (i value scale b : ℕ) → SoFar s i value scale → i < 9 → i < length s → b ≡ get_or s i 0 - 128 → 128 ≤ get_or s i 0 → get_or s i 0 < 256 → SoFar s (i + 1) (value + b * scale) (scale * 128)
one_more s i value scale b far few inside is high byte =
    let small : b < 128 = omega arith in
    record {
      scale_is = ap (λ n. n * 128) far.scale_is ∙ grind (arith, pow-suc 128 i);
      below = value_small value b scale far.below small;
      inside = omega arith;
      read = far.read ∙ ap (with_low value scale) (one_group s i few inside high byte) ∙ low_more value scale (get_or s i 0 - 128) (varint_within (10 - (i + 1)) (drop (i + 1) s)) ∙ rw is refl;
    }

module _ (bytes : List ℕ) (at i value scale : ℕ) (far : SoFar (rest_at bytes at) i value scale) where
  from_rest : varint_at (drop at bytes) ≡ with_low value scale (varint_within (10 - i) (drop i (rest_at bytes at)))
  from_rest = ap varint_at (sym (to_end bytes at)) ∙ far.read

  behind : (n next : ℕ) → at + n ≡ next → drop n (rest_at bytes at) ≡ drop next bytes
  behind n next is = ap (drop n) (to_end bytes at) ∙ drop-drop n at bytes ∙ ap (λ m. drop m bytes) is

  pub ends_cut : i < 10 → length (rest_at bytes at) ≤ i → varint_at (drop at bytes) ≡ Err Cut
  ends_cut few short = from_rest ∙ ap (with_low value scale) (cut_short (rest_at bytes at) i few short)

  pub ends_group : (b next : ℕ) → i < 9 → i < length (rest_at bytes at) → b ≡ get_or (rest_at bytes at) i 0 → b < 128 → at + (i + 1) ≡ next → varint_at (drop at bytes) ≡ Ok (value + b * scale, drop next bytes)
  ends_group b next few inside is small place =
      let low : get_or (rest_at bytes at) i 0 < 128 = omega arith in
      let number : value + scale * get_or (rest_at bytes at) i 0 ≡ value + b * scale = rw (← is) (grind arith) in
      from_rest ∙ ap (with_low value scale) (last_group (rest_at bytes at) i few inside low) ∙ rw (number, behind (i + 1) next place) refl

  pub ends_tenth : (b : ℕ) → i ≡ 9 → 9 < length (rest_at bytes at) → b ≡ get_or (rest_at bytes at) 9 0 → b < 2 → varint_at (drop at bytes) ≡ Ok (value + b * scale, drop (at + 10) bytes)
  ends_tenth b nine inside is small =
      let low : get_or (rest_at bytes at) 9 0 < 2 = omega arith in
      let number : value + scale * get_or (rest_at bytes at) 9 0 ≡ value + b * scale = rw (← is) (grind arith) in
      from_rest ∙ ap (with_low value scale) (tenth_small (rest_at bytes at) i nine inside low) ∙ rw (number, behind 10 (at + 10) refl) refl

  pub ends_long : i ≡ 9 → 9 < length (rest_at bytes at) → 2 ≤ get_or (rest_at bytes at) 9 0 → varint_at (drop at bytes) ≡ Err LongVarint
  ends_long nine inside large = from_rest ∙ ap (with_low value scale) (tenth_large (rest_at bytes at) i nine inside large)

-- a varint of one byte
pub one_byte : (bytes : List ℕ) (at : ℕ) → at < length bytes → get_or bytes at 0 < 128 → varint_at (drop at bytes) ≡ Ok (get_or bytes at 0, drop (at + 1) bytes)
unfolding varint_at
one_byte bytes at inside small =
    let low : nat_lt (get_or bytes at 0) 128 ≡ true = grind (arith, nat_tests) in
    rw (add-one, drop-cons bytes at 0 inside, low) refl

pub no_byte : (bytes : List ℕ) (at : ℕ) → length bytes ≤ at → varint_at (drop at bytes) ≡ Err Cut
unfolding varint_at
no_byte bytes at past = rw (drop_all at bytes past) refl
