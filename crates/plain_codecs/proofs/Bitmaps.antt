-- Bitmaps and the documents of their bits.
use Rattle.shared_lemmas.proofs.Common.{◌≡◌, ◌≢◌, ◌↔◌, ◌==◌, ℕ, ◌+◌, ◌-◌, ◌*◌, ◌/◌, ◌%◌, ◌^◌, ◌<◌, ◌≤◌, Bool, true, false, cond, List, [], ◌∷◌, ◌++◌, length, get_or, take, filter, count_ones, Contains, All, Result, Ok, Err, refl, sym, ap, ◌∙◌, subst, inl, inr, arith, nat_lt, bit_at, list_all}
use Rattle.shared_lemmas.proofs.Common.{range_with_len, IsStrictlyIncreasing, cases_lt, false_from_ne_true, nat_tests, get_or_default, get_or_past, length-map, length-append, take_more, AllPass-from_list_all, list_all-from_AllPass, pow_pos, shr_split, mod_below, bit_at_above, bit_at-lt}
use Rattle.shared_lemmas.proofs.Common.{bit_at-zero, same_from_bits_below, div-eq_of_lt}
use lib.Count.{ones_step}
use Rattle.jass_base.proofs.Gaps.{rise_from}
use Rattle.shared_lemmas.proofs.Places.{reads_below}
use Rattle.shared_lemmas.proofs.Bits.{bit_at-mod}
use Rattle.lane_kernels.proofs.Bits.{length-list_of, get_or-list_of, list_of_all, bit_at_number, number_is}
use Rattle.jass_base.specs.Gaps.{AreDocs}
use Rattle.jass_base.specs.declared.payload_fault.PayloadFault.{PayloadFault}
use Rattle.jass_base.specs.declared.payload_fault.PayloadFault.TheVariants.{Shape, DocRange}
use Rattle.lane_kernels.specs.Bitmap.{bit_of, numbers_of_bits, set_bits}
use Rattle.plain_codecs.specs.Bitmap.{bit_for, bitmap_byte, bitmap_of, bitmap_size, read_bitmap}
use Rattle.plain_codecs.proofs.Members.{same_rising, bit_small, bit_of_member, member_of_bit}

-- the laws of set bits
abbrev pub Rising : Type 0
Rising = (base : ℕ) (bytes : List ℕ) → IsStrictlyIncreasing (set_bits base bytes)

abbrev pub Members : Type 0
Members = (base : ℕ) (bytes : List ℕ) (i : ℕ) → Contains (set_bits base bytes) (base + i) ↔ (bit_of bytes i ≡ 1)

same_bits : (a b : ℕ) → a < 2 → b < 2 → (a ≡ 1 → b ≡ 1) → (b ≡ 1 → a ≡ 1) → a ≡ b
same_bits a b small_a small_b to from =
    elim (cases_lt a 1) [
      | inl l ↦ elim (cases_lt b 1) [ inl m ↦ omega arith | inr g ↦ let one : a ≡ 1 = from (omega arith) in omega arith ]
      | inr g ↦ let one : b ≡ 1 = to (omega arith) in omega arith
    ]

-- a bit past the end is not set
bit_inside : (bytes : List ℕ) (x : ℕ) → bit_of bytes x ≡ 1 → x < 8 * length bytes
bit_inside bytes x one =
    elim (cases_lt (x / 8) (length bytes)) [
      | inl l ↦ omega arith
      | inr g ↦ absurd (omega (arith, one, ap (λ n. bit_at n (x % 8)) (get_or_past bytes (x / 8) 0 g), bit_at-zero (x % 8)))
    ]

-- members and bits
module _ (members : Members) (bytes : List ℕ) (x : ℕ) where
  pub bit_is_set : Contains (set_bits 0 bytes) x → bit_of bytes x ≡ 1
  bit_is_set in_bits = (members 0 bytes x).0 (subst (Contains (set_bits 0 bytes)) (let e : x ≡ 0 + x = omega arith in e) in_bits)

  pub set_has : bit_of bytes x ≡ 1 → Contains (set_bits 0 bytes) x
  set_has one = subst (Contains (set_bits 0 bytes)) (let e : 0 + x ≡ x = omega arith in e) ((members 0 bytes x).1 one)

pub length-bitmap : (d : ℕ) (docs : List ℕ) → length (bitmap_of d docs) ≡ bitmap_size d
length-bitmap d docs = length-list_of (bitmap_byte docs) (bitmap_size d)

bit_of_bitmap : (d : ℕ) (docs : List ℕ) (x : ℕ) → x / 8 < bitmap_size d → bit_of (bitmap_of d docs) x ≡ bit_for docs x
bit_of_bitmap d docs x h =
    let place : 8 * (x / 8) + x % 8 ≡ x = omega arith in
    ap (λ n. bit_at n (x % 8)) (get_or-list_of (bitmap_byte docs) (bitmap_size d) (x / 8) h)
    ∙ bit_at_number (λ v. bit_for docs (8 * (x / 8) + v)) 8 (λ v l. bit_small docs (8 * (x / 8) + v)) (x % 8) (omega arith)
    ∙ ap (bit_for docs) place

contains_below : (d : ℕ) (docs : List ℕ) (x : ℕ) → All (λ doc. doc < d) docs → Contains docs x → x < d
contains_below d docs x below in_docs = let low = below in_docs.0 x in_docs.1 in omega (arith, low, in_docs.2)

pub bitmap_found : Rising → Members → (d : ℕ) (docs : List ℕ) → AreDocs d docs → set_bits 0 (bitmap_of d docs) ≡ docs
bitmap_found rising members d docs are =
    let bytes : List ℕ = bitmap_of d docs in
    let size = length-bitmap d docs in
    same_rising 0 (set_bits 0 bytes) docs (rise_from 0 (set_bits 0 bytes) (rising 0 bytes) (λ some. omega arith)) (rise_from 0 docs are.rising (λ some. omega arith))
    (λ x in_bits.
    let one = bit_is_set members bytes x in_bits in
    let inside = bit_inside bytes x one in
    member_of_bit docs x (sym (bit_of_bitmap d docs x (omega (arith, size))) ∙ one))
    (λ x in_docs.
    let low = contains_below d docs x are.below in_docs in
    set_has members bytes x (bit_of_bitmap d docs x (omega arith) ∙ bit_of_member docs x in_docs))

pub bitmap_only : Members → (d : ℕ) (bytes : List ℕ) → All (λ byte. byte < 256) bytes → length bytes ≡ bitmap_size d → bitmap_of d (set_bits 0 bytes) ≡ bytes
bitmap_only members d bytes below size =
    let docs : List ℕ = set_bits 0 bytes in
    sym (list_of_all (bitmap_byte docs) bytes (bitmap_size d) size (λ k h.
    number_is (λ v. bit_for docs (8 * k + v)) 8 (get_or bytes k 0) (reads_below bytes below k) (λ v l.
    let x : ℕ = 8 * k + v in
    let byte : x / 8 ≡ k = omega arith in
    let bit : x % 8 ≡ v = omega arith in
    let here : bit_of bytes x ≡ bit_at (get_or bytes k 0) v = ap (λ n. bit_at (get_or bytes n 0) (x % 8)) byte ∙ ap (bit_at (get_or bytes k 0)) bit in
    sym here ∙ same_bits (bit_of bytes x) (bit_for docs x) (bit_at-lt (get_or bytes (x / 8) 0) (x % 8)) (bit_small docs x)
    (λ one. bit_of_member docs x (set_has members bytes x one))
    (λ one. bit_is_set members bytes x (member_of_bit docs x one)))))

-- ---- bits from d on
abbrev pub Below : ℕ → List ℕ → Bool
Below d docs = list_all (λ doc. nat_lt doc d) docs

all_by_members : (d : ℕ) (docs : List ℕ) → ((x : ℕ) → Contains docs x → x < d) → Below d docs ≡ true
all_by_members d docs low =
    list_all-from_AllPass (λ doc. nat_lt doc d) docs (λ k e h.
    let x : ℕ = get_or docs k e in
    let less : x < d = low x (k, h, get_or_default docs k x e h) in
    grind (arith, nat_tests))

member_below : (d : ℕ) (docs : List ℕ) (x : ℕ) → Below d docs ≡ true → Contains docs x → x < d
member_below d docs x all in_docs = grind (arith, nat_tests, AllPass-from_list_all (λ doc. nat_lt doc d) docs all in_docs.0 x in_docs.1, in_docs.2)

pub below_all : (d : ℕ) (docs : List ℕ) → All (λ doc. doc < d) docs → Below d docs ≡ true
below_all d docs below = all_by_members d docs (λ x in_docs. contains_below d docs x below in_docs)

small_from_zero : (n k : ℕ) → n / 2 ^ k ≡ 0 → n < 2 ^ k
small_from_zero n k none = omega (arith, ap (λ q. q * 2 ^ k + n % 2 ^ k) none, shr_split n k, mod_below n (2 ^ k) (pow_pos k))

pub unused_clear : Members → (d : ℕ) (bytes : List ℕ) → length bytes ≡ bitmap_size d → (d % 8 ≢ 0 → get_or bytes (length bytes - 1) 0 / 2 ^ (d % 8) ≡ 0) → Below d (set_bits 0 bytes) ≡ true
unused_clear members d bytes size clear =
    all_by_members d (set_bits 0 bytes) (λ x in_bits.
    let one = bit_is_set members bytes x in_bits in
    let inside = bit_inside bytes x one in
    elim (cases_lt x d) [
      | inl l ↦ l
      | inr g ↦
          let used : d % 8 ≢ 0 = λ none. omega (arith, none) in
          let byte : x / 8 ≡ length bytes - 1 = omega arith in
          let small = small_from_zero (get_or bytes (length bytes - 1) 0) (d % 8) (clear used) in
          let none = bit_at_above (get_or bytes (length bytes - 1) 0) (d % 8) (x % 8) small (omega arith) in
          absurd (omega (arith, one, none, ap (λ n. bit_at (get_or bytes n 0) (x % 8)) byte))
    ])

mod_fits : (n k : ℕ) → n < 256 → n % 2 ^ k < 2 ^ 8
mod_fits n k small = omega (arith, shr_split n k)

pub unused_set : Members → (d : ℕ) (bytes : List ℕ) → 1 ≤ d → length bytes ≡ bitmap_size d → ((k : ℕ) → get_or bytes k 0 < 256) → d % 8 ≢ 0 → get_or bytes (length bytes - 1) 0 / 2 ^ (d % 8) ≢ 0 → Below d (set_bits 0 bytes) ≡ false
unused_set members d bytes some size fits used set =
    false_from_ne_true (Below d (set_bits 0 bytes)) (λ all.
    let last : ℕ = get_or bytes (length bytes - 1) 0 in
    let low : last % 2 ^ (d % 8) < 2 ^ (d % 8) = mod_below last (2 ^ (d % 8)) (pow_pos (d % 8)) in
    let same : last ≡ last % 2 ^ (d % 8) = same_from_bits_below 8 last (last % 2 ^ (d % 8)) (fits (length bytes - 1)) (mod_fits last (d % 8) (fits (length bytes - 1))) (λ v l.
    elim (cases_lt v (d % 8)) [
      | inl m ↦ sym (bit_at-mod last (d % 8) v m)
      | inr g ↦
          let x : ℕ = 8 * (length bytes - 1) + v in
          let byte : x / 8 ≡ length bytes - 1 = omega arith in
          let bit : x % 8 ≡ v = omega arith in
          let here : bit_of bytes x ≡ bit_at last v = ap (λ n. bit_at (get_or bytes n 0) (x % 8)) byte ∙ ap (bit_at last) bit in
          same_bits (bit_at last v) (bit_at (last % 2 ^ (d % 8)) v) (bit_at-lt last v) (bit_at-lt (last % 2 ^ (d % 8)) v)
          (λ one. absurd (let less = member_below d (set_bits 0 bytes) x all (set_has members bytes x (here ∙ one)) in omega (arith, size)))
          (λ one. absurd (omega (arith, one, bit_at_above (last % 2 ^ (d % 8)) (d % 8) v low g)))
    ]) in
    set (div-eq_of_lt (omega (arith, same, low))))

-- ---- the answers of the reading function

abbrev judged : ℕ → ℕ → List ℕ → Result (List ℕ) PayloadFault
judged d count docs = cond (Below d docs) (cond (length docs == count) (Ok docs) (Err Shape)) (Err DocRange)

pub is_whole : (d count : ℕ) (bytes : List ℕ) → length bytes ≡ bitmap_size d → read_bitmap d count bytes ≡ judged d count (set_bits 0 bytes)
is_whole d count bytes size =
    let a : nat_lt (length bytes) (bitmap_size d) ≡ false = grind (arith, nat_tests) in
    let b : nat_lt (bitmap_size d) (length bytes) ≡ false = grind (arith, nat_tests) in
    rw a (rw b refl)

pub is_right : (d count : ℕ) (docs : List ℕ) → Below d docs ≡ true → length docs ≡ count → judged d count docs ≡ Ok docs
is_right d count docs low long = let test : (length docs == count) ≡ true = grind (arith, nat_tests) in rw low (rw test refl)

pub documents_read : (d count : ℕ) (docs bytes : List ℕ) → AreDocs d docs → length docs ≡ count → length bytes ≡ bitmap_size d → set_bits 0 bytes ≡ docs → read_bitmap d count bytes ≡ Ok docs
documents_read d count docs bytes are long size is =
    is_whole d count bytes size ∙ ap (judged d count) is ∙ is_right d count docs (below_all d docs are.below) long

-- ---- counting bits
total : (ℕ → ℕ) → List ℕ → ℕ
total bit [] = 0
total bit (x ∷ xs) = bit x + total bit xs

length-set : (bit : ℕ → ℕ) → ((i : ℕ) → bit i < 2) → (xs : List ℕ) → length (filter (λ i. bit i == 1) xs) ≡ total bit xs
unfolding total
length-set bit small [] = refl
length-set bit small (x ∷ xs) = go (bit x == 1) refl (length-set bit small xs)
  where
    go : (test : Bool) → (bit x == 1) ≡ test → length (filter (λ i. bit i == 1) xs) ≡ total bit xs → length (cond test (x ∷ filter (λ i. bit i == 1) xs) (filter (λ i. bit i == 1) xs)) ≡ bit x + total bit xs
    go true is rest = let one : bit x ≡ 1 = grind (arith, nat_tests) in omega (arith, rest)
    go false is rest = let other : bit x ≢ 1 = grind (arith, nat_tests) in omega (arith, rest, small x)

byte_ones : (b : ℕ) → b < 256 → count_ones b ≡ b % 2 + b / 2 % 2 + b / 4 % 2 + b / 8 % 2 + b / 16 % 2 + b / 32 % 2 + b / 64 % 2 + b / 128 % 2
unfolding lib.Count.ones
byte_ones b small =
    let none : b / 2 / 2 / 2 / 2 / 2 / 2 / 2 / 2 ≡ 0 = omega arith in
    let zero_ones : count_ones (b / 2 / 2 / 2 / 2 / 2 / 2 / 2 / 2) ≡ 0 = ap count_ones none in
    omega (
      arith,
      ones_step b,
      ones_step (b / 2),
      ones_step (b / 2 / 2),
      ones_step (b / 2 / 2 / 2),
      ones_step (b / 2 / 2 / 2 / 2),
      ones_step (b / 2 / 2 / 2 / 2 / 2),
      ones_step (b / 2 / 2 / 2 / 2 / 2 / 2),
      ones_step (b / 2 / 2 / 2 / 2 / 2 / 2 / 2),
      zero_ones,
    )

one_byte : (base b : ℕ) → b < 256 → length (set_bits base (b ∷ [])) ≡ count_ones b
unfolding numbers_of_bits total
one_byte base b small =
    length-map (filter (λ i. bit_of (b ∷ []) i == 1) (range_with_len 0 8)) (λ i. base + i)
    ∙ length-set (bit_of (b ∷ [])) (λ i. bit_at-lt (get_or (b ∷ []) (i / 8) 0) (i % 8)) (range_with_len 0 8)
    ∙ omega (arith, byte_ones b small)

abbrev pub SetParts : Type 0
SetParts = (base : ℕ) (front back : List ℕ) → set_bits base (front ++ back) ≡ set_bits base front ++ set_bits (base + 8 * length front) back

pub ones_more : SetParts → (bytes : List ℕ) (i : ℕ) → i < length bytes → get_or bytes i 0 < 256 → length (set_bits 0 (take (i + 1) bytes)) ≡ length (set_bits 0 (take i bytes)) + count_ones (get_or bytes i 0)
ones_more parts bytes i h small =
    let b : ℕ = get_or bytes i 0 in
    let front : List ℕ = take i bytes in
    ap (λ (xs : List ℕ). length (set_bits 0 xs)) (take_more bytes i 0 h)
    ∙ ap (λ (xs : List ℕ). length xs) (parts 0 front (b ∷ []))
    ∙ length-append (set_bits 0 front) (set_bits (0 + 8 * length front) (b ∷ []))
    ∙ ap (λ n. length (set_bits 0 front) + n) (one_byte (0 + 8 * length front) b small)

pub none_set : (base : ℕ) → set_bits base [] ≡ []
unfolding numbers_of_bits
none_set base = refl

pub unused_test : Members → (d : ℕ) (bytes : List ℕ) → 1 ≤ d → length bytes ≡ bitmap_size d → ((k : ℕ) → get_or bytes k 0 < 256) → d % 8 ≢ 0 → (get_or bytes (length bytes - 1) 0 / 2 ^ (d % 8) == 0) ≡ Below d (set_bits 0 bytes)
unused_test members d bytes some size fits used = go (get_or bytes (length bytes - 1) 0 / 2 ^ (d % 8) == 0) refl
  where
    go : (test : Bool) → (get_or bytes (length bytes - 1) 0 / 2 ^ (d % 8) == 0) ≡ test → test ≡ Below d (set_bits 0 bytes)
    go true is = sym (unused_clear members d bytes size (λ used. grind (arith, nat_tests)))
    go false is = sym (unused_set members d bytes some size fits used (let set : get_or bytes (length bytes - 1) 0 / 2 ^ (d % 8) ≢ 0 = grind (arith, nat_tests) in set))
