-- The first eight values of a word of selectors 5 to 11, in lanes of 16 bits.
use Rattle.shared_lemmas.proofs.Common.{◌≡◌, ℕ, zero, suc, ◌+◌, ◌*◌, ◌-◌, ◌/◌, ◌%◌, ◌^◌, ◌<◌, ◌≤◌, Bool, true, List, [], ◌∷◌, length, get_or, replicate, refl, sym, ap, ◌∙◌, arith, nat_eq, nat_le, nat_lt, ◌&&◌, list_all, range_with_len, digits_l, number_l, nat_tests, and_parts}
use Rattle.shared_lemmas.proofs.Common.{div-one, take_all, ext_get_or, field_of, mod-mul-add, mod-pow-add, mod-lt, pow_pos, pow-le-pow_right, shr-shr, suc-mul, length-replicate, get_or-replicate}
use Rattle.std.proofs.Math.Nat.{mul-div_cancel, mul-mod_left}
use Rattle.std.proofs.lemmas.Simd.{swz_l, length-swz_l, get_or-swz_l_below, Each1-from_get_or, get_or_wider, get_or-zip2, length-zip2}
use Rattle.shared_lemmas.proofs.Places.{reads_below}
use Rattle.codec_simple8.specs.Simple8.{width_of, fields, least_behind}
use Rattle.codec_simple8.proofs.Digits.{length-digits, digits_below}
use Rattle.codec_simple8.proofs.GapLists.{All-from_below}
use Rattle.codec_simple8.proofs.Tables.{each_of, at_each}
use lib.Lanes.{Each1, zip2, chunk}
use mir.Syntax.{w8}

-- ---- the tables

unfoldable pub places : List (List ℕ)
places = (0 ∷ 1 ∷ 0 ∷ 1 ∷ 1 ∷ 2 ∷ 1 ∷ 2 ∷ 2 ∷ 3 ∷ 2 ∷ 3 ∷ 3 ∷ 4 ∷ 3 ∷ 4 ∷ []) ∷ (0 ∷ 1 ∷ 0 ∷ 1 ∷ 1 ∷ 2 ∷ 1 ∷ 2 ∷ 2 ∷ 3 ∷ 3 ∷ 4 ∷ 3 ∷ 4 ∷ 4 ∷ 5 ∷ []) ∷ (0 ∷ 1 ∷ 0 ∷ 1 ∷ 1 ∷ 2 ∷ 2 ∷ 3 ∷ 3 ∷ 4 ∷ 3 ∷ 4 ∷ 4 ∷ 5 ∷ 5 ∷ 6 ∷ []) ∷ (0 ∷ 1 ∷ 0 ∷ 1 ∷ 1 ∷ 2 ∷ 2 ∷ 3 ∷ 3 ∷ 4 ∷ 4 ∷ 5 ∷ 5 ∷ 6 ∷ 6 ∷ 7 ∷ []) ∷ (0 ∷ 1 ∷ 1 ∷ 2 ∷ 2 ∷ 3 ∷ 3 ∷ 4 ∷ 4 ∷ 5 ∷ 5 ∷ 6 ∷ 6 ∷ 7 ∷ 7 ∷ 8 ∷ []) ∷ (0 ∷ 1 ∷ 1 ∷ 2 ∷ 2 ∷ 3 ∷ 3 ∷ 4 ∷ 5 ∷ 6 ∷ 6 ∷ 7 ∷ 7 ∷ 8 ∷ 8 ∷ 9 ∷ []) ∷ (0 ∷ 1 ∷ 1 ∷ 2 ∷ 3 ∷ 4 ∷ 4 ∷ 5 ∷ 6 ∷ 7 ∷ 7 ∷ 8 ∷ 9 ∷ 10 ∷ 10 ∷ 11 ∷ []) ∷ []

unfoldable pub factors : List (List ℕ)
factors = (4096 ∷ 256 ∷ 4096 ∷ 256 ∷ 4096 ∷ 256 ∷ 4096 ∷ 256 ∷ []) ∷ (2048 ∷ 64 ∷ 512 ∷ 16 ∷ 128 ∷ 1024 ∷ 32 ∷ 256 ∷ []) ∷ (1024 ∷ 16 ∷ 64 ∷ 256 ∷ 1024 ∷ 16 ∷ 64 ∷ 256 ∷ []) ∷ (512 ∷ 4 ∷ 8 ∷ 16 ∷ 32 ∷ 64 ∷ 128 ∷ 256 ∷ []) ∷ (256 ∷ 256 ∷ 256 ∷ 256 ∷ 256 ∷ 256 ∷ 256 ∷ 256 ∷ []) ∷ (64 ∷ 16 ∷ 4 ∷ 1 ∷ 64 ∷ 16 ∷ 4 ∷ 1 ∷ []) ∷ (16 ∷ 1 ∷ 16 ∷ 1 ∷ 16 ∷ 1 ∷ 16 ∷ 1 ∷ []) ∷ []

-- what they hold for each of the values
holds : ℕ → ℕ → Bool
holds s k = nat_eq (get_or (get_or places (s - 5) []) (2 * k) 0) (k * width_of s / 8)
    && (nat_eq (get_or (get_or places (s - 5) []) (suc (2 * k)) 0) (k * width_of s / 8 + 1)
    && (nat_eq (get_or (get_or factors (s - 5) []) k 0) (2 ^ (16 - (k * width_of s % 8 + width_of s)))
    && (nat_le (k * width_of s % 8 + width_of s) 16 && nat_le (k * width_of s / 8 + 2) 16)))

all_hold : (s k : ℕ) → 5 ≤ s → s ≤ 11 → k < 8 → holds s k ≡ true
unfolding width_of places factors holds
all_hold s k from to within =
    at_each (holds s) 8 (each_of (λ s. list_all (holds s) (range_with_len 0 8)) 7 5 refl s from (omega (arith, to))) k within

pub record Lane (s k : ℕ) : Type 0 where
  pub low : get_or (get_or places (s - 5) []) (2 * k) 0 ≡ k * width_of s / 8
  pub high : get_or (get_or places (s - 5) []) (suc (2 * k)) 0 ≡ k * width_of s / 8 + 1
  pub factor : get_or (get_or factors (s - 5) []) k 0 ≡ 2 ^ (16 - (k * width_of s % 8 + width_of s))
  pub fits : k * width_of s % 8 + width_of s ≤ 16
  pub within : k * width_of s / 8 + 2 ≤ 16

pub lane : (s k : ℕ) → 5 ≤ s → s ≤ 11 → k < 8 → Lane s k
unfolding holds
lane s k from to within =
    let a = and_parts (nat_eq (get_or (get_or places (s - 5) []) (2 * k) 0) (k * width_of s / 8)) _ (all_hold s k from to within) in
    let b = and_parts (nat_eq (get_or (get_or places (s - 5) []) (suc (2 * k)) 0) (k * width_of s / 8 + 1)) _ a.1 in
    let c = and_parts (nat_eq (get_or (get_or factors (s - 5) []) k 0) (2 ^ (16 - (k * width_of s % 8 + width_of s)))) _ b.1 in
    let d = and_parts (nat_le (k * width_of s % 8 + width_of s) 16) (nat_le (k * width_of s / 8 + 2) 16) c.1 in
    let ta = a.0 in let tb = b.0 in let tc = c.0 in let td = d.0 in let te = d.1 in
    record { low = grind (arith, nat_tests); high = grind (arith, nat_tests); factor = grind (arith, nat_tests); fits = grind (arith, nat_tests); within = grind (arith, nat_tests) }

pub rows_long : (s : ℕ) → 5 ≤ s → s ≤ 11 → (length (get_or places (s - 5) []) ≡ 16) × (length (get_or factors (s - 5) []) ≡ 8)
unfolding places factors
rows_long s from to =
    let t = each_of (λ s. nat_eq (length (get_or places (s - 5) [])) 16) 7 5 refl s from (omega (arith, to)) in
    let u = each_of (λ s. nat_eq (length (get_or factors (s - 5) [])) 8) 7 5 refl s from (omega (arith, to)) in
    (grind (arith, nat_tests), grind (arith, nat_tests))

pub places_few : (s m : ℕ) → 5 ≤ s → s ≤ 11 → m < 16 → get_or (get_or places (s - 5) []) m 0 < 16
unfolding places
places_few s m from to within =
    let t = at_each (λ m. nat_lt (get_or (get_or places (s - 5) []) m 0) 16) 16 (each_of (λ s. list_all (λ m. nat_lt (get_or (get_or places (s - 5) []) m 0) 16) (range_with_len 0 16)) 7 5 refl s from (omega (arith, to))) m within in
    grind (arith, nat_tests)

-- a table's row, as it is read
pub whole_row : (row : List ℕ) (n : ℕ) → length row ≡ n → chunk 0 n row ≡ row
whole_row row n long = take_all n row (omega (arith, long))

pub width_narrow : (s : ℕ) → 5 ≤ s → s ≤ 11 → width_of s ≤ 12
unfolding width_of
width_narrow s from to = let t = each_of (λ s. nat_le (width_of s) 12) 7 5 refl s from (omega (arith, to)) in grind (arith, nat_tests)

pub width_half : (s : ℕ) → 5 ≤ s → s ≤ 7 → width_of s ≤ 6
unfolding width_of
width_half s from to = let t = each_of (λ s. nat_le (width_of s) 6) 3 5 refl s from (omega (arith, to)) in grind (arith, nat_tests)

pub width_some : (s : ℕ) → 5 ≤ s → s ≤ 11 → 1 ≤ width_of s
unfolding width_of
width_some s from to = let t = each_of (λ s. nat_le 1 (width_of s)) 7 5 refl s from (omega (arith, to)) in grind (arith, nat_tests)

-- ---- two bytes of a number

-- digit i of a number to a power of two
pub digit_at : (w n x i : ℕ) → i < n → get_or (digits_l (2 ^ w) n x) i 0 ≡ x / 2 ^ (i * w) % 2 ^ w
digit_at w zero x i within = absurd (omega arith)
digit_at w (suc n) x zero within =
    let none : 0 * w ≡ 0 = omega arith in
    sym (ap (λ k. x / 2 ^ k % 2 ^ w) none ∙ ap (λ y. y % 2 ^ w) (div-one x))
digit_at w (suc n) x (suc i) within =
    digit_at w n (x / 2 ^ w) i (omega arith) ∙ ap (λ y. y % 2 ^ w) (shr-shr x w (i * w) ∙ ap (λ k. x / 2 ^ k) (let e : w + i * w ≡ suc i * w = omega (arith, suc-mul i w) in e))

two_at : (xs : List ℕ) (i : ℕ) → i + 2 ≤ length xs → chunk i 2 xs ≡ get_or xs i 0 ∷ get_or xs (suc i) 0 ∷ []
two_at [] i within = absurd (omega arith)
two_at (x ∷ []) zero within = absurd (omega arith)
two_at (x ∷ y ∷ xs) zero within = refl
two_at (x ∷ xs) (suc i) within = two_at xs i (omega arith)

-- two bytes, one behind the other
two_bytes : (x b : ℕ) → x / 2 ^ (b * 8) % 256 + 256 * (x / 2 ^ ((b + 1) * 8) % 256 + 256 * 0) ≡ x / 2 ^ (b * 8) % 65536
two_bytes x b =
    let later : x / 2 ^ ((b + 1) * 8) ≡ x / 2 ^ (b * 8) / 256 = ap (λ k. x / 2 ^ k) (let e : (b + 1) * 8 ≡ b * 8 + 8 = omega arith in e) ∙ sym (shr-shr x (b * 8) 8) in
    let parts = mod-pow-add (x / 2 ^ (b * 8)) 8 8 in
    rw later (omega (arith, parts))

byte_below : (xs js : List ℕ) (m : ℕ) → ((k : ℕ) → get_or xs k 0 < 256) → m < length js → get_or js m 0 < 16 → get_or (swz_l w8 16 xs 0 js) m 0 < 256
byte_below xs js m small within few = rw (get_or-swz_l_below w8 16 xs 0 js m within few) (small (16 * ((0 + m) / 16) + get_or js m 0))

pub pair_at : (bytes js : List ℕ) (x k b : ℕ) → bytes ≡ digits_l 256 16 x → length js ≡ 16 → k < 8 → get_or js (2 * k) 0 ≡ b → get_or js (suc (2 * k)) 0 ≡ b + 1 → b + 2 ≤ 16 → ((m : ℕ) → m < 16 → get_or js m 0 < 16)
    → get_or (digits_l 65536 8 (number_l 256 (swz_l w8 16 bytes 0 js))) k 0 ≡ x / 2 ^ (b * 8) % 65536
pair_at bytes js x k b are long within low high room few =
    let small : (m : ℕ) → get_or bytes m 0 < 256 = rw are (reads_below (digits_l 256 16 x) (All-from_below 256 (digits_l 256 16 x) (digits_below 256 16 x (omega arith)))) in
    let size : length (swz_l w8 16 bytes 0 js) ≡ 16 = length-swz_l w8 16 bytes 0 js ∙ long in
    let each : Each1 (λ y. y < 256) (swz_l w8 16 bytes 0 js) = Each1-from_get_or (λ y. y < 256) (swz_l w8 16 bytes 0 js) 0 (λ m inside. byte_below bytes js m small (omega (arith, inside, size, long)) (few m (omega (arith, inside, size)))) in
    let first : get_or (swz_l w8 16 bytes 0 js) (2 * k) 0 ≡ x / 2 ^ (b * 8) % 256 =
    get_or-swz_l_below w8 16 bytes 0 js (2 * k) (omega (arith, within, long)) (omega (arith, low, room))
    ∙ ap (λ m. get_or bytes m 0) (let e : 16 * ((0 + 2 * k) / 16) + get_or js (2 * k) 0 ≡ b = omega (arith, within, low) in e)
    ∙ ap (λ (bs : List ℕ). get_or bs b 0) are ∙ digit_at 8 16 x b (omega (arith, room)) in
    let second : get_or (swz_l w8 16 bytes 0 js) (suc (2 * k)) 0 ≡ x / 2 ^ ((b + 1) * 8) % 256 =
    get_or-swz_l_below w8 16 bytes 0 js (suc (2 * k)) (omega (arith, within, long)) (omega (arith, high, room))
    ∙ ap (λ m. get_or bytes m 0) (let e : 16 * ((0 + suc (2 * k)) / 16) + get_or js (suc (2 * k)) 0 ≡ b + 1 = omega (arith, within, high) in e)
    ∙ ap (λ (bs : List ℕ). get_or bs (b + 1) 0) are ∙ digit_at 8 16 x (b + 1) (omega (arith, room)) in
    get_or_wider 256 2 65536 8 (swz_l w8 16 bytes 0 js) k refl each within
    ∙ ap (number_l 256) (two_at (swz_l w8 16 bytes 0 js) (2 * k) (omega (arith, within, size)))
    ∙ rw (first, second) (two_bytes x b)

-- ---- a value of at most 16 bits at any of them

-- a number moved up, of which its low bits are left
moved_up : (z m j : ℕ) → z * 2 ^ m % 2 ^ (j + m) ≡ z % 2 ^ j * 2 ^ m
moved_up z m j =
    let top : z * 2 ^ m / 2 ^ m ≡ z = mul-div_cancel z (pow_pos m) in
    let none : z * 2 ^ m % 2 ^ m ≡ 0 = mul-mod_left z (2 ^ m) in
    mod-pow-add (z * 2 ^ m) j m ∙ rw (top, none) (omega arith)

low_bits : (n j k : ℕ) → n % 2 ^ (j + k) % 2 ^ k ≡ n % 2 ^ k
low_bits n j k = ap (λ y. y % 2 ^ k) (mod-pow-add n j k) ∙ mod-mul-add (n / 2 ^ k % 2 ^ j) (2 ^ k) (n % 2 ^ k) (mod-lt n (pow_pos k))

pub value_of : (y w r : ℕ) → r + w ≤ 16 → y % 65536 * 2 ^ (16 - (r + w)) % 65536 / 2 ^ (16 - w) ≡ y / 2 ^ r % 2 ^ w
value_of y w r fits =
    let m = 16 - (r + w) in
    let all : 16 ≡ r + w + m = omega (arith, fits) in
    let down : 16 - w ≡ m + r = omega (arith, fits) in
    let flipped : r + w ≡ w + r = omega arith in
    let rest : 16 ≡ 16 - r + r = omega (arith, fits) in
    let more : 16 - r ≡ 16 - r - w + w = omega (arith, fits) in
    ap (λ k. y % 65536 * 2 ^ m % 2 ^ k / 2 ^ (16 - w)) all
    ∙ ap (λ z. z / 2 ^ (16 - w)) (moved_up (y % 65536) m (r + w))
    ∙ ap (λ k. y % 65536 % 2 ^ (r + w) * 2 ^ m / 2 ^ k) down
    ∙ sym (shr-shr (y % 65536 % 2 ^ (r + w) * 2 ^ m) m r)
    ∙ ap (λ z. z / 2 ^ r) (mul-div_cancel (y % 65536 % 2 ^ (r + w)) (pow_pos m))
    ∙ ap (λ k. y % 65536 % 2 ^ k / 2 ^ r) flipped ∙ field_of (y % 65536) w r
    ∙ ap (λ k. y % 2 ^ k / 2 ^ r % 2 ^ w) rest ∙ ap (λ z. z % 2 ^ w) (field_of y (16 - r) r)
    ∙ ap (λ k. y / 2 ^ r % 2 ^ k % 2 ^ w) more ∙ low_bits (y / 2 ^ r) (16 - r - w) w

times : ℕ → ℕ → ℕ
times a b = a * b % 65536

shifted : ℕ → ℕ → ℕ
shifted a b = a / 2 ^ b

-- all eight
pub eight_values : (s x width : ℕ) (pairs : List ℕ) → 5 ≤ s → s ≤ 11 → width ≡ width_of s → length pairs ≡ 8 → ((k : ℕ) → k < 8 → get_or pairs k 0 ≡ x / 2 ^ (k * width_of s / 8 * 8) % 65536)
    → zip2 (λ a b. a / 2 ^ b) (zip2 (λ a b. a * b % 65536) pairs (get_or factors (s - 5) [])) (replicate 8 (16 - width)) ≡ fields (width_of s) 8 x
unfolding fields
eight_values s x width pairs from to wide long are =
    ext_get_or 0 (zip2 (λ a b. a / 2 ^ b) tops (replicate 8 (16 - width))) (digits_l (2 ^ width_of s) 8 x) (size ∙ sym (length-digits (2 ^ width_of s) 8 x)) (λ k inside. at k (omega (arith, inside, size)))
  where
    tops : List ℕ
    tops = zip2 (λ a b. a * b % 65536) pairs (get_or factors (s - 5) [])

    tops_long : length tops ≡ 8
    tops_long = length-zip2 (λ a b. a * b % 65536) pairs (get_or factors (s - 5) []) (long ∙ sym (rows_long s from to).1) ∙ long

    size : length (zip2 (λ a b. a / 2 ^ b) tops (replicate 8 (16 - width))) ≡ 8
    size = length-zip2 (λ a b. a / 2 ^ b) tops (replicate 8 (16 - width)) (tops_long ∙ sym (length-replicate 8 (16 - width))) ∙ tops_long

    at : (k : ℕ) → k < 8 → get_or (zip2 (λ a b. a / 2 ^ b) tops (replicate 8 (16 - width))) k 0 ≡ get_or (digits_l (2 ^ width_of s) 8 x) k 0
    at k within =
        let l = lane s k from to within in
        let b = k * width_of s / 8 in
        let r = k * width_of s % 8 in
        let place : b * 8 + r ≡ k * width_of s = omega arith in
        get_or-zip2 (λ a b. a / 2 ^ b) tops (replicate 8 (16 - width)) k 0 0 0 (omega (arith, tops_long, within)) (omega (arith, length-replicate 8 (16 - width), within))
        ∙ ap (λ n. get_or tops k 0 / 2 ^ n) (get_or-replicate 8 k (16 - width) 0 within ∙ ap (λ w. 16 - w) wide)
        ∙ ap (λ t. t / 2 ^ (16 - width_of s)) (get_or-zip2 (λ a b. a * b % 65536) pairs (get_or factors (s - 5) []) k 0 0 0 (omega (arith, long, within)) (omega (arith, (rows_long s from to).1, within)))
        ∙ ap (λ y. y * get_or (get_or factors (s - 5) []) k 0 % 65536 / 2 ^ (16 - width_of s)) (are k within)
        ∙ ap (λ f. x / 2 ^ (b * 8) % 65536 * f % 65536 / 2 ^ (16 - width_of s)) l.factor
        ∙ value_of (x / 2 ^ (b * 8)) (width_of s) r l.fits
        ∙ ap (λ y. y % 2 ^ width_of s) (shr-shr x (b * 8) r ∙ ap (λ n. x / 2 ^ n) place)
        ∙ sym (digit_at (width_of s) 8 x k within)

-- ---- their sums

pub record Eight (w x : ℕ) : Type 0 where
  pub a : ℕ
  pub b : ℕ
  pub c : ℕ
  pub d : ℕ
  pub e : ℕ
  pub f : ℕ
  pub g : ℕ
  pub h : ℕ
  pub are : fields w 8 x ≡ a ∷ b ∷ c ∷ d ∷ e ∷ f ∷ g ∷ h ∷ []
  pub small-a : a < 4096
  pub small-b : b < 4096
  pub small-c : c < 4096
  pub small-d : d < 4096
  pub small-e : e < 4096
  pub small-f : f < 4096
  pub small-g : g < 4096
  pub small-h : h < 4096

pub eight : (w x : ℕ) → w ≤ 12 → Eight w x
unfolding fields
eight w x narrow =
    record {
      a = x % 2 ^ w;
      b = x / 2 ^ w % 2 ^ w;
      c = x / 2 ^ w / 2 ^ w % 2 ^ w;
      d = x / 2 ^ w / 2 ^ w / 2 ^ w % 2 ^ w;
      e = x / 2 ^ w / 2 ^ w / 2 ^ w / 2 ^ w % 2 ^ w;
      f = x / 2 ^ w / 2 ^ w / 2 ^ w / 2 ^ w / 2 ^ w % 2 ^ w;
      g = x / 2 ^ w / 2 ^ w / 2 ^ w / 2 ^ w / 2 ^ w / 2 ^ w % 2 ^ w;
      h = x / 2 ^ w / 2 ^ w / 2 ^ w / 2 ^ w / 2 ^ w / 2 ^ w / 2 ^ w % 2 ^ w;
      are = refl;
      small-a = low _;
      small-b = low _;
      small-c = low _;
      small-d = low _;
      small-e = low _;
      small-f = low _;
      small-g = low _;
      small-h = low _;
    }
  where
    low : (y : ℕ) → y % 2 ^ w < 4096
    low y = let two : 0 < 2 = omega arith in let most : 2 ^ w ≤ 2 ^ 12 = pow-le-pow_right two narrow in omega (arith, mod-lt y (pow_pos w), most)

-- the least behind them is not much greater
pub eight_behind : (w x least : ℕ) → w ≤ 12 → least_behind least (fields w 8 x) ≤ least + 32768
eight_behind w x least narrow =
    let n = eight w x narrow in
    rw n.are (omega (arith, n.small-a, n.small-b, n.small-c, n.small-d, n.small-e, n.small-f, n.small-g, n.small-h))

pub same_eight : {a b c d e f g h a' b' c' d' e' f' g' h' : ℕ} → a ≡ a' → b ≡ b' → c ≡ c' → d ≡ d' → e ≡ e' → f ≡ f' → g ≡ g' → h ≡ h' → (let x : List ℕ = a ∷ b ∷ c ∷ d ∷ e ∷ f ∷ g ∷ h ∷ [] in x) ≡ a' ∷ b' ∷ c' ∷ d' ∷ e' ∷ f' ∷ g' ∷ h' ∷ []
same_eight p q r s t u v w = cc
