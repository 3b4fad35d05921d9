-- The set bits of a word, and of the bytes that make one.
use Rattle.shared_lemmas.proofs.Common.{◌≡◌, ◌==◌, ℕ, zero, suc, ◌+◌, ◌-◌, ◌*◌, ◌/◌, ◌%◌, ◌^◌, ◌<◌, ◌≤◌, Bool, true, false, cond, eqb, List, [], ◌∷◌, ◌++◌, length, map, filter, get_or, replicate, bit_and, sym, ap, ◌∙◌, refl, arith, subst, inl, inr, add-one, Contains, All, ◌⊎◌, ◌↔◌, eqb-true}
use Rattle.shared_lemmas.proofs.Common.{eq-eqb, bit_at, range_with_len, IsStrictlyIncreasing, cases_lt, get_or_append_left, get_or-append-add, length-append, get_or-map, get_or_past, length-map, map-append, get_or-range_with_len, length-range_with_len, IsStrictlyIncreasing-filter, and_block}
use Rattle.shared_lemmas.proofs.Common.{and_le_r, mod-pow-add, pow-add, shr-shr, bit_at_cat_low, bit_at_cat_high, bit_at-zero, div-eq_of_lt, div-one, pow-suc, filter-append}
use Rattle.std.proofs.lemmas.List.{append-nil}
use Rattle.lane_kernels.specs.Bitmap.{bit_of, numbers_of_bits, set_bits}
use Rattle.lane_kernels.specs.Private.Bitmap.{word_bits}
use Rattle.shared_lemmas.proofs.Members.{contains_behind, contains_first}
use lib.Bits.{and_self}
use lib.Count.{count_trailing_zeros, under}
use lib.Lanes.{number_l}

-- the numbers base + i of the set bits i below n of a word, by recursion
pub bits_from : ℕ → ℕ → ℕ → List ℕ
bits_from base zero word = []
bits_from base (suc n) word = let rest = bits_from (base + 1) n (word / 2) in cond (eqb (word % 2) 1) (base ∷ rest) rest

-- one bit before the rest
abbrev put : ℕ → ℕ → List ℕ → List ℕ
put bit base rest = cond (eqb bit 1) (base ∷ rest) rest

step : (base n word bit half : ℕ) → word % 2 ≡ bit → word / 2 ≡ half → bits_from base (suc n) word ≡ put bit base (bits_from (base + 1) n half)
unfolding bits_from
step base n word bit half is by = ap (λ b. put b base (bits_from (base + 1) n (word / 2))) is ∙ ap (λ h. put bit base (bits_from (base + 1) n h)) by

put-append : (b : Bool) (base : ℕ) (xs ys : List ℕ) → cond b (base ∷ (xs ++ ys)) (xs ++ ys) ≡ cond b (base ∷ xs) xs ++ ys
put-append true base xs ys = refl
put-append false base xs ys = refl

length-put : (b : Bool) (base n : ℕ) (xs : List ℕ) → length xs ≤ n → length (cond b (base ∷ xs) xs) ≤ suc n
length-put true base n xs h = omega arith
length-put false base n xs h = omega arith

pub none_set : (base n : ℕ) → bits_from base n 0 ≡ []
unfolding bits_from
none_set base zero = refl
none_set base (suc n) = none_set (base + 1) n

-- only the bits below n count
pub bits_from-mod : (base n word : ℕ) → bits_from base n (word % 2 ^ n) ≡ bits_from base n word
unfolding bits_from
bits_from-mod base zero word = refl
bits_from-mod base (suc n) word =
    let parts : word % 2 ^ suc n ≡ (word / 2 % 2 ^ n) * 2 + word % 2 = ap (λ k. word % 2 ^ k) (sym (add-one n)) ∙ mod-pow-add word n 1 in
    step base n (word % 2 ^ suc n) (word % 2) (word / 2 % 2 ^ n) (omega arith) (omega arith)
    ∙ ap (put (word % 2) base) (bits_from-mod (base + 1) n (word / 2))

-- the bits below n, and then those above
pub bits_from-add : (base n m word : ℕ) → bits_from base (n + m) word ≡ bits_from base n word ++ bits_from (base + n) m (word / 2 ^ n)
unfolding bits_from
bits_from-add base zero m word = let a : 0 + m ≡ m = omega arith in let b : base + 0 ≡ base = omega arith in let d : word / 1 ≡ word = div-one word in cc
bits_from-add base (suc n) m word =
    let count : suc n + m ≡ suc (n + m) = omega arith in
    let from : base + 1 + n ≡ base + suc n = omega arith in
    let up : word / 2 / 2 ^ n ≡ word / 2 ^ suc n = shr-shr word 1 n ∙ ap (λ k. word / 2 ^ k) (let e : 1 + n ≡ suc n = omega arith in e) in
    ap (λ k. bits_from base k word) count
    ∙ ap (put (word % 2) base) (bits_from-add (base + 1) n m (word / 2)
    ∙ ap (λ b. bits_from (base + 1) n (word / 2) ++ bits_from b m (word / 2 / 2 ^ n)) from
    ∙ ap (λ w. bits_from (base + 1) n (word / 2) ++ bits_from (base + suc n) m w) up)
    ∙ put-append (eqb (word % 2) 1) base (bits_from (base + 1) n (word / 2)) (bits_from (base + suc n) m (word / 2 ^ suc n))

pub length-bits_from : (base n word : ℕ) → length (bits_from base n word) ≤ n
unfolding bits_from
length-bits_from base zero word = omega arith
length-bits_from base (suc n) word = length-put (eqb (word % 2) 1) base n (bits_from (base + 1) n (word / 2)) (length-bits_from (base + 1) n (word / 2))

trailing_even : (n word : ℕ) → word % 2 ≡ 0 → count_trailing_zeros (suc n) word ≡ suc (count_trailing_zeros n (word / 2))
unfolding count_trailing_zeros
trailing_even n word is = ap (λ d. under d (count_trailing_zeros n (word / 2))) is

trailing_odd : (n word : ℕ) → word % 2 ≡ 1 → count_trailing_zeros (suc n) word ≡ 0
unfolding count_trailing_zeros
trailing_odd n word is = ap (λ d. under d (count_trailing_zeros n (word / 2))) is

-- the lowest set bit, and the word without it
pub lowest_first : (base n word : ℕ) → word < 2 ^ n → 0 < word → bits_from base n word ≡ (base + count_trailing_zeros n word) ∷ bits_from base n (bit_and word (word - 1))
lowest_first base zero word below some = absurd (omega arith)
lowest_first base (suc n) word below some =
    let half : ℕ = word / 2 in
    elim (cases_lt (word % 2) 1) [
      | inl even ↦
          let is : word % 2 ≡ 0 = omega arith in
          let both : word ≡ half * 2 + 0 = omega arith in
          let less : word - 1 ≡ (half - 1) * 2 + 1 = omega arith in
          let small : half < 2 ^ n = omega (arith, pow-suc 2 n) in
          let left : bit_and word (word - 1) ≡ bit_and half (half - 1) * 2 + 0 =
          ap (λ w. bit_and w (word - 1)) both ∙ ap (bit_and (half * 2 + 0)) less ∙ and_block 1 half (half - 1) 0 1 (omega arith) (omega arith) in
          let zeros : count_trailing_zeros (suc n) word ≡ suc (count_trailing_zeros n half) = trailing_even n word is in
          let from : base + 1 + count_trailing_zeros n half ≡ base + count_trailing_zeros (suc n) word = omega arith in
          step base n word 0 half is refl
          ∙ lowest_first (base + 1) n half small (omega arith)
          ∙ ap (λ b. b ∷ bits_from (base + 1) n (bit_and half (half - 1))) from
          ∙ ap (λ (rest : List ℕ). (base + count_trailing_zeros (suc n) word) ∷ rest)
          (sym (step base n (bit_and word (word - 1)) 0 (bit_and half (half - 1)) (omega arith) (omega arith)))
      | inr odd ↦
          let is : word % 2 ≡ 1 = omega arith in
          let both : word ≡ half * 2 + 1 = omega arith in
          let less : word - 1 ≡ half * 2 + 0 = omega arith in
          let left : bit_and word (word - 1) ≡ half * 2 + 0 =
          ap (λ w. bit_and w (word - 1)) both ∙ ap (bit_and (half * 2 + 1)) less ∙ and_block 1 half half 1 0 (omega arith) (omega arith) ∙ ap (λ h. h * 2 + 0) (and_self half) in
          let zeros : count_trailing_zeros (suc n) word ≡ 0 = trailing_odd n word is in
          step base n word 1 half is refl
          ∙ ap (λ b. b ∷ bits_from (base + 1) n half) (let e : base ≡ base + count_trailing_zeros (suc n) word = omega arith in e)
          ∙ ap (λ (rest : List ℕ). (base + count_trailing_zeros (suc n) word) ∷ rest)
          (sym (step base n (bit_and word (word - 1)) 0 half (omega arith) (omega arith)))
    ]

pub word_without_lowest : (word : ℕ) → 0 < word → bit_and word (word - 1) < word
word_without_lowest word some = omega (arith, and_le_r word (word - 1))

-- ---- the definitions by recursion
map_put : (b : Bool) (base a : ℕ) (xs : List ℕ) → map (λ i. base + i) (cond b (a ∷ xs) xs) ≡ cond b ((base + a) ∷ map (λ i. base + i) xs) (map (λ i. base + i) xs)
map_put true base a xs = refl
map_put false base a xs = refl

picks : (bit : ℕ → ℕ) (word : ℕ) → ((i : ℕ) → bit i ≡ bit_at word i) → (base n a : ℕ)
    → map (λ i. base + i) (filter (λ i. bit i == 1) (range_with_len a n)) ≡ bits_from (base + a) n (word / 2 ^ a)
unfolding bits_from
picks bit word same base zero a = refl
picks bit word same base (suc n) a =
    let rest : List ℕ = filter (λ i. bit i == 1) (range_with_len (a + 1) n) in
    let from : base + (a + 1) ≡ base + a + 1 = omega arith in
    map_put (eqb (bit a) 1) base a rest
    ∙ ap (put (bit a) (base + a)) (picks bit word same base n (a + 1) ∙ ap (λ b. bits_from b n (word / 2 ^ (a + 1))) from)
    ∙ sym (step (base + a) n (word / 2 ^ a) (bit a) (word / 2 ^ (a + 1)) (sym (same a)) (shr-shr word a 1))

numbers_are : (bit : ℕ → ℕ) (word base n : ℕ) → ((i : ℕ) → bit i ≡ bit_at word i) → numbers_of_bits bit base n ≡ bits_from base n word
unfolding numbers_of_bits
numbers_are bit word base n same =
    picks bit word same base n 0
    ∙ ap (λ b. bits_from b n (word / 1)) (let e : base + 0 ≡ base = omega arith in e)
    ∙ ap (λ w. bits_from base n w) (div-one word)

pub word_bits_are : (base word : ℕ) → word_bits base word ≡ bits_from base 64 word
word_bits_are base word = numbers_are (bit_at word) word base 64 (λ i. refl)

pub word_bits_first : (base word : ℕ) → word < 2 ^ 64 → 0 < word → word_bits base word ≡ (base + count_trailing_zeros 64 word) ∷ word_bits base (bit_and word (word - 1))
word_bits_first base word fits some =
    word_bits_are base word ∙ lowest_first base 64 word fits some
    ∙ ap (λ (rest : List ℕ). (base + count_trailing_zeros 64 word) ∷ rest) (sym (word_bits_are base (bit_and word (word - 1))))

pub word_bits_nil : (base : ℕ) → word_bits base 0 ≡ []
word_bits_nil base = word_bits_are base 0 ∙ none_set base 64

pub length-word_bits : (base word : ℕ) → length (word_bits base word) ≤ 64
length-word_bits base word = omega (arith, ap length (word_bits_are base word), length-bits_from base 64 word)

-- while a bit is left, there is a place for its number
pub room_for_one : (base word rest filled count : ℕ) → rest < 2 ^ 64 → 0 < rest → filled + length (word_bits base rest) ≡ count + length (word_bits base word) → count ≤ 64 → filled < 128
room_for_one base word rest filled count fits some left room = omega (arith, left, length-word_bits base word, ap length (word_bits_first base rest fits some))

-- ---- bytes as one number
pub bit_of_number : (bytes : List ℕ) → ((k : ℕ) → get_or bytes k 0 < 256) → (i : ℕ) → bit_of bytes i ≡ bit_at (number_l 256 bytes) i
bit_of_number [] fits i = bit_at-zero (i % 8) ∙ sym (bit_at-zero i)
bit_of_number (x ∷ xs) fits i =
    let all : number_l 256 (x ∷ xs) ≡ number_l 256 xs * 2 ^ 8 + x = omega arith in
    elim (cases_lt i 8) [
      | inl l ↦
          let first : i / 8 ≡ 0 = omega arith in
          let place : i % 8 ≡ i = omega arith in
          ap (λ k. bit_at (get_or (x ∷ xs) k 0) (i % 8)) first ∙ ap (bit_at x) place
          ∙ sym (ap (λ n. bit_at n i) all ∙ bit_at_cat_low (number_l 256 xs) 8 x i l)
      | inr g ↦
          let later : i / 8 ≡ suc ((i - 8) / 8) = omega arith in
          let place : i % 8 ≡ (i - 8) % 8 = omega arith in
          ap (λ k. bit_at (get_or (x ∷ xs) k 0) (i % 8)) later ∙ ap (bit_at (get_or xs ((i - 8) / 8) 0)) place
          ∙ bit_of_number xs (λ k. fits (suc k)) (i - 8)
          ∙ sym (ap (λ n. bit_at n i) all ∙ bit_at_cat_high (number_l 256 xs) 8 x i (fits 0) g)
    ]

pub number_below : (bytes : List ℕ) → ((k : ℕ) → get_or bytes k 0 < 256) → number_l 256 bytes < 2 ^ (8 * length bytes)
number_below [] fits = omega arith
number_below (x ∷ xs) fits =
    let one_more : 2 ^ (8 * suc (length xs)) ≡ 2 ^ 8 * 2 ^ (8 * length xs) =
    ap (λ k. 2 ^ k) (let e : 8 * suc (length xs) ≡ 8 + 8 * length xs = omega arith in e) ∙ pow-add 2 8 (8 * length xs) in
    omega (arith, one_more, number_below xs (λ k. fits (suc k)), fits 0)

pub number_padded : (bytes : List ℕ) (k : ℕ) → number_l 256 (bytes ++ replicate k 0) ≡ number_l 256 bytes
number_padded [] zero = refl
number_padded [] (suc k) = omega (arith, number_padded [] k)
number_padded (x ∷ xs) k = ap (λ n. x + 256 * n) (number_padded xs k)

-- up to sixteen bytes as two words
pub set_bits_of_words : (base : ℕ) (bytes : List ℕ) → ((k : ℕ) → get_or bytes k 0 < 256) → length bytes ≤ 16
    → word_bits base (number_l 256 bytes % 2 ^ 64) ++ word_bits (base + 64) (number_l 256 bytes / 2 ^ 64) ≡ set_bits base bytes
set_bits_of_words base bytes fits short =
    let n : ℕ = number_l 256 bytes in
    let k : ℕ = 8 * length bytes in
    let above : n / 2 ^ k ≡ 0 = div-eq_of_lt (number_below bytes fits) in
    let whole : bits_from base (k + (128 - k)) n ≡ bits_from base k n =
    bits_from-add base k (128 - k) n
    ∙ ap (λ w. bits_from base k n ++ bits_from (base + k) (128 - k) w) above
    ∙ ap (λ (xs : List ℕ). bits_from base k n ++ xs) (none_set (base + k) (128 - k))
    ∙ append-nil (bits_from base k n) in
    let halves : k + (128 - k) ≡ 64 + 64 = omega arith in
    ap (λ (xs : List ℕ). xs ++ word_bits (base + 64) (n / 2 ^ 64)) (word_bits_are base (n % 2 ^ 64) ∙ bits_from-mod base 64 n)
    ∙ ap (λ (xs : List ℕ). bits_from base 64 n ++ xs) (word_bits_are (base + 64) (n / 2 ^ 64))
    ∙ sym (bits_from-add base 64 64 n)
    ∙ sym (ap (λ m. bits_from base m n) halves)
    ∙ whole
    ∙ sym (numbers_are (bit_of bytes) n base k (bit_of_number bytes fits))

-- ---- bitmaps in parts
-- the numbers base + i of those i of a range whose bit is 1
abbrev pub in_range : (ℕ → ℕ) → ℕ → ℕ → ℕ → List ℕ
in_range bit base from n = map (λ i. base + i) (filter (λ i. bit i == 1) (range_with_len from n))

in_range_step : (b : Bool) (base i : ℕ) (xs ys : List ℕ) → map (λ i. base + i) xs ≡ ys → map (λ i. base + i) (cond b (i ∷ xs) xs) ≡ cond b ((base + i) ∷ ys) ys
in_range_step true base i xs ys e = ap (λ (zs : List ℕ). (base + i) ∷ zs) e
in_range_step false base i xs ys e = e

-- two ranges give the same numbers where their bits agree
in_range_same : (bit bit' : ℕ → ℕ) (base base' from from' n : ℕ) → base + from ≡ base' + from' → ((i : ℕ) → i < n → bit (from + i) ≡ bit' (from' + i))
    → in_range bit base from n ≡ in_range bit' base' from' n
in_range_same bit bit' base base' from from' zero e same = refl
in_range_same bit bit' base base' from from' (suc n) e same =
    let here : bit from ≡ bit' from' = ap bit (let a : from ≡ from + 0 = omega arith in a) ∙ same 0 (omega arith) ∙ ap bit' (let a : from' + 0 ≡ from' = omega arith in a) in
    let rest = in_range_same bit bit' base base' (from + 1) (from' + 1) n (omega arith) (λ i h.
    ap bit (let a : from + 1 + i ≡ from + (i + 1) = omega arith in a) ∙ same (i + 1) (omega arith) ∙ ap bit' (let a : from' + (i + 1) ≡ from' + 1 + i = omega arith in a)) in
    in_range_step (eqb (bit from) 1) base from (filter (λ i. bit i == 1) (range_with_len (from + 1) n)) (in_range bit' base' (from' + 1) n) rest
    ∙ ap (λ b. cond (eqb b 1) ((base + from) ∷ in_range bit' base' (from' + 1) n) (in_range bit' base' (from' + 1) n)) here
    ∙ ap (λ x. cond (eqb (bit' from') 1) (x ∷ in_range bit' base' (from' + 1) n) (in_range bit' base' (from' + 1) n)) e
    ∙ sym (in_range_step (eqb (bit' from') 1) base' from' (filter (λ i. bit' i == 1) (range_with_len (from' + 1) n)) (in_range bit' base' (from' + 1) n) refl)

pub range-append : (a n m : ℕ) → range_with_len a (n + m) ≡ range_with_len a n ++ range_with_len (a + n) m
range-append a zero m =
    ap (range_with_len a) (let e : zero + m ≡ m = omega arith in e) ∙ ap (λ b. range_with_len b m) (let e : a ≡ a + zero = omega arith in e)
range-append a (suc n) m =
    ap (range_with_len a) (let e : suc n + m ≡ suc (n + m) = omega arith in e)
    ∙ ap (λ (xs : List ℕ). a ∷ xs) (range-append (a + 1) n m ∙ ap (λ b. range_with_len (a + 1) n ++ range_with_len b m) (let e : a + 1 + n ≡ a + suc n = omega arith in e))

in_range_parts : (bit : ℕ → ℕ) (base from n m : ℕ) → in_range bit base from (n + m) ≡ in_range bit base from n ++ in_range bit base (from + n) m
in_range_parts bit base from n m =
    let front = range_with_len from n in
    let back = range_with_len (from + n) m in
    ap (λ (xs : List ℕ). map (λ i. base + i) (filter (λ i. bit i == 1) xs)) (range-append from n m) ∙ ap (map (λ i. base + i)) (filter-append (λ i. bit i == 1) front back)
    ∙ map-append (λ i. base + i) (filter (λ i. bit i == 1) front) (filter (λ i. bit i == 1) back)

pub set_bits-append : (base : ℕ) (xs ys : List ℕ) → set_bits base (xs ++ ys) ≡ set_bits base xs ++ set_bits (base + 8 * length xs) ys
unfolding numbers_of_bits
set_bits-append base xs ys =
    let n : ℕ = 8 * length xs in
    let m : ℕ = 8 * length ys in
    let both : List ℕ = xs ++ ys in
    ap (in_range (bit_of both) base 0) (let a : 8 * length both ≡ n + m = omega (arith, length-append xs ys) in a)
    ∙ in_range_parts (bit_of both) base 0 n m
    ∙ ap (λ (zs : List ℕ). zs ++ in_range (bit_of both) base (0 + n) m)
    (in_range_same (bit_of both) (bit_of xs) base base 0 0 n refl (λ i h. ap (λ b. bit_at b ((0 + i) % 8)) (get_or_append_left xs ys 0 ((0 + i) / 8) (omega arith))))
    ∙ ap (λ (zs : List ℕ). in_range (bit_of xs) base 0 n ++ zs)
    (in_range_same (bit_of both) (bit_of ys) base (base + n) (0 + n) 0 m (omega arith) (λ i h.
    ap (λ q. bit_at (get_or both q 0) ((0 + n + i) % 8)) (let a : (0 + n + i) / 8 ≡ length xs + (0 + i) / 8 = omega arith in a)
    ∙ ap (λ b. bit_at b ((0 + n + i) % 8)) (get_or-append-add xs ys ((0 + i) / 8) 0)
    ∙ ap (bit_at (get_or ys ((0 + i) / 8) 0)) (let a : (0 + n + i) % 8 ≡ (0 + i) % 8 = omega arith in a)))

-- ---- which numbers they are

in_range_has : (b : Bool) (first x : ℕ) (rest : List ℕ) → Contains (cond b (first ∷ rest) rest) x → ((b ≡ true) × (first ≡ x)) ⊎ Contains rest x
in_range_has true first x rest (zero, h, e) = inl (refl, e)
in_range_has true first x rest (suc k, h, e) = inr (k, omega arith, e)
in_range_has false first x rest c = inr c

in_range_only : (bit : ℕ → ℕ) (base from n x : ℕ) → Contains (in_range bit base from n) (base + x) → bit x ≡ 1
in_range_only bit base from zero x c = absurd (omega (arith, c.1))
in_range_only bit base from (suc n) x c =
    let rest : List ℕ = in_range bit base (from + 1) n in
    let here : in_range bit base from (suc n) ≡ cond (eqb (bit from) 1) ((base + from) ∷ rest) rest =
    in_range_step (eqb (bit from) 1) base from (filter (λ i. bit i == 1) (range_with_len (from + 1) n)) rest refl in
    elim (in_range_has (eqb (bit from) 1) (base + from) (base + x) rest (subst (λ (xs : List ℕ). Contains xs (base + x)) here c)) [
      | inl first ↦ ap bit (let e : x ≡ from = omega (arith, first.1) in e) ∙ eqb-true (bit from) 1 first.0
      | inr later ↦ in_range_only bit base (from + 1) n x later
    ]

in_range_all : (bit : ℕ → ℕ) (base from n x : ℕ) → from ≤ x → x < from + n → bit x ≡ 1 → Contains (in_range bit base from n) (base + x)
in_range_all bit base from zero x low high set = absurd (omega arith)
in_range_all bit base from (suc n) x low high set =
    let rest : List ℕ = in_range bit base (from + 1) n in
    let here : in_range bit base from (suc n) ≡ cond (eqb (bit from) 1) ((base + from) ∷ rest) rest =
    in_range_step (eqb (bit from) 1) base from (filter (λ i. bit i == 1) (range_with_len (from + 1) n)) rest refl in
    subst (λ (xs : List ℕ). Contains xs (base + x)) (sym here) (elim (cases_lt from x) [
      | inl l ↦ later (eqb (bit from) 1) (in_range_all bit base (from + 1) n x (omega arith) (omega arith) set)
      | inr g ↦
          let is : from ≡ x = omega arith in
          subst (λ b. Contains (cond b ((base + from) ∷ rest) rest) (base + x)) (sym (eq-eqb (bit from) 1 (ap bit is ∙ set)))
          (contains_first (base + x) (base + from) rest (omega arith))
    ])
  where
    later : (b : Bool) → Contains (in_range bit base (from + 1) n) (base + x) → Contains (cond b ((base + from) ∷ in_range bit base (from + 1) n) (in_range bit base (from + 1) n)) (base + x)
    later true c = contains_behind (base + x) (base + from) (in_range bit base (from + 1) n) c
    later false c = c

pub set_bits_members : (base : ℕ) (bytes : List ℕ) (i : ℕ) → Contains (set_bits base bytes) (base + i) ↔ (bit_of bytes i ≡ 1)
unfolding numbers_of_bits
set_bits_members base bytes i = (
  in_range_only (bit_of bytes) base 0 (8 * length bytes) i,
  λ set. elim (cases_lt i (8 * length bytes)) [
    | inl l ↦ in_range_all (bit_of bytes) base 0 (8 * length bytes) i (omega arith) (omega arith) set
    | inr g ↦
        let past : get_or bytes (i / 8) 0 ≡ 0 = get_or_past bytes (i / 8) 0 (omega arith) in
        absurd (omega (arith, ap (λ b. bit_at b (i % 8)) past, bit_at-zero (i % 8), set))
  ],
)

pub set_bits_from_base : (base : ℕ) (bytes : List ℕ) → All (λ x. base ≤ x) (set_bits base bytes)
unfolding numbers_of_bits
set_bits_from_base base bytes k d h =
    let bits : List ℕ = filter (λ i. bit_of bytes i == 1) (range_with_len 0 (8 * length bytes)) in
    omega (arith, get_or-map (λ i. base + i) bits k 0 d (omega (arith, length-map bits (λ i. base + i))))

range_rises : (from n : ℕ) → IsStrictlyIncreasing (range_with_len from n)
range_rises from n k h =
    omega (arith, length-range_with_len from n, get_or-range_with_len from n k 0 (omega (arith, length-range_with_len from n)), get_or-range_with_len from n (k + 1) 0 (omega (arith, length-range_with_len from n)))

pub set_bits_rise : (base : ℕ) (bytes : List ℕ) → IsStrictlyIncreasing (set_bits base bytes)
unfolding numbers_of_bits
set_bits_rise base bytes k h =
    let bits : List ℕ = filter (λ i. bit_of bytes i == 1) (range_with_len 0 (8 * length bytes)) in
    let long : k + 1 < length bits = omega (arith, length-map bits (λ i. base + i)) in
    omega (
      arith,
      get_or-map (λ i. base + i) bits k 0 0 (omega arith),
      get_or-map (λ i. base + i) bits (k + 1) 0 0 long,
      IsStrictlyIncreasing-filter (λ i. bit_of bytes i == 1) (range_with_len 0 (8 * length bytes)) (range_rises 0 (8 * length bytes)) k long,
    )
