-- Which of the slots of set bits are near a score.
use Rattle.shared_lemmas.proofs.Common.{◌≡◌, ℕ, zero, suc, ◌+◌, ◌-◌, ◌*◌, ◌/◌, ◌%◌, ◌^◌, ◌<◌, ◌≤◌, ◌==◌, ◌&&◌, Bool, true, false, cond, leb, List, [], ◌∷◌, ◌++◌, length, map, filter, get_or, set, replicate, min, bit_and, bit_at, flat_map, range_with_len, refl, sym, ap, ◌∙◌, inl, inr, ◌⊎◌, arith, w32, cases_lt, le-leb, lt-leb, bit_at-lt, bit_at-zero}
use Rattle.shared_lemmas.proofs.Common.{ne_eqb, get_or-set_other, get_or-set_same, length-set, get_or-map, get_or-chunk, length-chunk, length-map, map-map, bitmask_splat, nat_tests}
use Rattle.std.proofs.lemmas.Simd.{bit_mask_l, length-zip2, mask_l-lt, zip2_splat}
use Rattle.std.proofs.lemmas.Nat.Bits.{bit_at_and}
use Rattle.jass_base.specs.declared.answer.Hit.{Hit}
use Rattle.lane_kernels.specs.Adding.{is_near}
use Rattle.lane_kernels.specs.Bitmap.{bit_of, numbers_of_bits, set_bits}
use Rattle.lane_kernels.proofs.SetBits.{in_range}
use Rattle.accumulator_pages.specs.Adding.{crossed}
use Rattle.accumulator_pages.proofs.Bits.{not_crossed, past_bits}
use lib.Lanes.{chunk, mask_l, top, zip2}

-- ---- eight slots at once

abbrev less : ℕ → ℕ → ℕ
less a b = (a + (2 ^ 32 - b)) % 2 ^ 32

-- whether a slot less a score wraps to at most a weight
abbrev pub wraps_near : ℕ → ℕ → ℕ → Bool
wraps_near w from slot = leb (less slot from) w

module _ (w from place : ℕ) (slots : List ℕ) (room : place + 8 ≤ length slots) where
  -- the mask that the lanes give
  abbrev pub lanes_mask : ℕ
  lanes_mask = mask_l (map (top 31) (zip2 (λ a b. cond (leb a b) 4294967295 0) (zip2 less (chunk place 8 slots) (replicate 8 from)) (replicate 8 w))) % 2 ^ 64

  long : length (chunk place 8 slots) ≡ 8
  long = length-chunk place 8 slots room

  lanes_mask_is : lanes_mask ≡ mask_l (map (wraps_near w from) (chunk place 8 slots))
  lanes_mask_is =
      bitmask_splat w32 leb (zip2 less (chunk place 8 slots) (replicate 8 from)) 8 w (length-zip2 less (chunk place 8 slots) (replicate 8 from) long ∙ long) (omega arith)
      ∙ ap (λ (xs : List ℕ). mask_l (map (λ x. leb x w) xs)) (zip2_splat less (chunk place 8 slots) 8 from long)
      ∙ ap mask_l (map-map (λ x. leb x w) (λ a. less a from) (chunk place 8 slots))

  pub mask_small : lanes_mask < 256
  mask_small =
      omega (arith, lanes_mask_is, mask_l-lt (map (wraps_near w from) (chunk place 8 slots)), ap (λ (n : ℕ). 2 ^ n) (length-map (chunk place 8 slots) (wraps_near w from) ∙ long))

  pub mask_bit : (k : ℕ) → k < 8 → bit_at lanes_mask k ≡ cond (wraps_near w from (get_or slots (place + k) 0)) 1 0
  mask_bit k low =
      ap (λ (m : ℕ). bit_at m k) lanes_mask_is ∙ bit_mask_l (map (wraps_near w from) (chunk place 8 slots)) k
      ∙ ap (λ (b : Bool). cond b 1 0) (get_or-map (wraps_near w from) (chunk place 8 slots) k 0 false (omega (arith, low, long))
      ∙ ap (wraps_near w from) (get_or-chunk place 8 slots k 0 low))

-- ---- byte by byte

-- the difference modulo 2 ^ 32 is at most w just where the slot is near, for it isn't below w
wraps_is_near : (n w from : ℕ) → w ≤ n → n < 2 ^ 32 → from < 2 ^ 32 → wraps_near w from n ≡ is_near w from n
wraps_is_near n w from most small start =
    elim (cases_lt n from) as (λ _. wraps_near w from n ≡ is_near w from n) [
      | inl below ↦ lt-leb (less n from) w (omega (arith, below)) ∙ sym (ap (λ (t : Bool). t && leb n (from + w)) (lt-leb from n below))
      | inr above ↦
          let lower : is_near w from n ≡ leb n (from + w) = ap (λ (t : Bool). t && leb n (from + w)) (le-leb from n above) in
          elim (cases_lt (from + w) n) as (λ _. wraps_near w from n ≡ is_near w from n) [
            | inl past ↦ lt-leb (less n from) w (omega (arith, above, past)) ∙ sym (lower ∙ lt-leb n (from + w) past)
            | inr within ↦ le-leb (less n from) w (omega (arith, above, within)) ∙ sym (lower ∙ le-leb n (from + w) within)
          ]
    ]

-- the bits of a bitmap below a place, of which those remain whose slots are near
pub record NearBelow (w from : ℕ) (slots bits near : List ℕ) (at : ℕ) : Type 0 where
  pub long : length near ≡ 16
  pub done : (i : ℕ) → i < 8 * at → bit_of near i ≡ cond (is_near w from (get_or slots i 0)) (bit_of bits i) 0
  pub left : (k : ℕ) → at ≤ k → get_or near k 0 ≡ 0

pub none_yet : (w from : ℕ) (slots bits : List ℕ) → NearBelow w from slots bits (replicate 16 0) 0
none_yet w from slots bits = record { long = refl; done = λ i low. absurd (omega (arith, low)); left = λ k _. zeros 16 k }
  where
    zeros : (n k : ℕ) → ◌≡◌ {A = ℕ} (get_or (replicate n 0) k 0) 0
    zeros zero k = omega arith
    zeros (suc n) zero = omega arith
    zeros (suc n) (suc k) = zeros n k

-- a bit that isn't set stays so
pub unset : (t : Bool) (b : ℕ) → b ≡ 0 → cond t b 0 ≡ 0
unset true b none = none
unset false b none = refl

-- one bit, where the mask's bit is that of the wrapped difference
near_bit : (b n w from : ℕ) → b < 2 → (b ≡ 1 → w ≤ n) → n < 2 ^ 32 → from < 2 ^ 32 → min b (cond (wraps_near w from n) 1 0) ≡ cond (is_near w from n) b 0
near_bit zero n w from small most fits start =
    (let e : min 0 (cond (wraps_near w from n) 1 0) ≡ 0 = omega arith in e) ∙ sym (unset (is_near w from n) 0 refl)
near_bit (suc zero) n w from small most fits start = ap (λ (t : Bool). min 1 (cond t 1 0)) (wraps_is_near n w from (most refl) fits start) ∙ one (is_near w from n)
  where
    one : (t : Bool) → min 1 (cond t 1 0) ≡ cond t 1 0
    one true = omega arith
    one false = omega arith
near_bit (suc (suc b)) n w from small most fits start = absurd (omega (arith, small))

set_there : (xs : List ℕ) (at k x : ℕ) → k ≡ at → at < length xs → get_or (set xs at x) k 0 ≡ x
set_there xs at k x is inside = ap (λ (j : ℕ). get_or (set xs at x) j 0) is ∙ get_or-set_same xs at x 0 inside

pub near_more : (w from at byte : ℕ) (slots bits near : List ℕ) → from < 2 ^ 32 → ((i : ℕ) → get_or slots i 0 < 2 ^ 32) → ((i : ℕ) → bit_of bits i ≡ 1 → w ≤ get_or slots i 0)
    → at < 16 → ((k : ℕ) → k < 8 → bit_at byte k ≡ cond (wraps_near w from (get_or slots (8 * at + k) 0)) 1 0) → NearBelow w from slots bits near at
    → NearBelow w from slots bits (set near at (bit_and (get_or bits at 0) byte)) (at + 1)
near_more w from at byte slots bits near start fits rose room mask below = record {
  long = omega (arith, below.long, length-set near at (bit_and (get_or bits at 0) byte));
  done = λ i low. elim (cases_lt i (8 * at)) [
    | inl before ↦
        ap (λ (b : ℕ). bit_at b (i % 8)) (get_or-set_other near at (i / 8) (bit_and (get_or bits at 0) byte) 0 (λ e. absurd (omega (arith, e, before)))) ∙ below.done i before
    | inr here ↦
        let byte_of : i / 8 ≡ at = omega (arith, low, here) in
        let slot : 8 * at + i % 8 ≡ i = omega (arith, byte_of) in
        ap (λ (b : ℕ). bit_at b (i % 8)) (set_there near at (i / 8) (bit_and (get_or bits at 0) byte) byte_of (omega (arith, room, below.long))
        ∙ ap (λ (k : ℕ). bit_and (get_or bits k 0) byte) (sym byte_of))
        ∙ bit_at_and (get_or bits (i / 8) 0) byte (i % 8)
        ∙ ap (min (bit_of bits i)) (mask (i % 8) (omega arith) ∙ ap (λ (k : ℕ). cond (wraps_near w from (get_or slots k 0)) 1 0) slot)
        ∙ near_bit (bit_of bits i) (get_or slots i 0) w from (bit_at-lt (get_or bits (i / 8) 0) (i % 8)) (rose i) (fits i) start
  ];
  left = λ k past. get_or-set_other near at k (bit_and (get_or bits at 0) byte) 0 (λ e. absurd (omega (arith, e, past))) ∙ below.left k (omega (arith, past));
}

pub near_done : (w from at : ℕ) (slots bits near : List ℕ) → length bits ≤ at → NearBelow w from slots bits near at
    → (i : ℕ) → bit_of near i ≡ cond (is_near w from (get_or slots i 0)) (bit_of bits i) 0
near_done w from at slots bits near all below i =
    elim (cases_lt i (8 * at)) as (λ _. bit_of near i ≡ cond (is_near w from (get_or slots i 0)) (bit_of bits i) 0) [
      | inl before ↦ below.done i before
      | inr past ↦
          ap (λ (b : ℕ). bit_at b (i % 8)) (below.left (i / 8) (omega (arith, past))) ∙ bit_at-zero (i % 8)
          ∙ sym (unset (is_near w from (get_or slots i 0)) (bit_of bits i) (past_bits bits i (omega (arith, past, all))))
    ]

-- ---- the documents of the bits that remain

in_range_none : (bit : ℕ → ℕ) (base from n : ℕ) → ((i : ℕ) → from ≤ i → bit i ≡ 0) → in_range bit base from n ≡ []
in_range_none bit base from zero none = refl
in_range_none bit base from (suc n) none =
    let rest : List ℕ = filter (λ i. bit i == 1) (range_with_len (from + 1) n) in
    ap (λ (b : Bool). map (λ i. base + i) (cond b (from ∷ rest) rest)) (ne_eqb (bit from) 1 (λ e. absurd (omega (arith, e, none from (omega arith)))))
    ∙ in_range_none bit base (from + 1) n (λ i low. none i (omega (arith, low)))

-- one more bit in front
picked_first : (p : ℕ → Bool) (base from : ℕ) (t b : Bool) (rest picked : List ℕ) → p (base + from) ≡ t → map (λ i. base + i) picked ≡ filter p (map (λ i. base + i) rest)
    → map (λ i. base + i) (cond (t && b) (from ∷ picked) picked) ≡ filter p (map (λ i. base + i) (cond b (from ∷ rest) rest))
picked_first p base from true true rest picked is e =
    let behind : List ℕ = filter p (map (λ i. base + i) rest) in
    ap (λ (xs : List ℕ). (base + from) ∷ xs) e ∙ sym (ap (λ (c : Bool). cond c ((base + from) ∷ behind) behind) is)
picked_first p base from false true rest picked is e =
    let behind : List ℕ = filter p (map (λ i. base + i) rest) in
    e ∙ sym (ap (λ (c : Bool). cond c ((base + from) ∷ behind) behind) is)
picked_first p base from true false rest picked is e = e
picked_first p base from false false rest picked is e = e

picked_test : (t : Bool) (b : ℕ) → (cond t b 0 == 1) ≡ (t && (b == 1))
picked_test true b = refl
picked_test false b = refl

in_range_picked : (p : ℕ → Bool) (bit near : ℕ → ℕ) (base from n more : ℕ) → ((i : ℕ) → near i ≡ cond (p (base + i)) (bit i) 0) → ((i : ℕ) → from + n ≤ i → near i ≡ 0)
    → in_range near base from (n + more) ≡ filter p (in_range bit base from n)
in_range_picked p bit near base from zero more is none = in_range_none near base from (zero + more) (λ i low. none i (omega (arith, low)))
in_range_picked p bit near base from (suc n) more is none =
    let picked : List ℕ = filter (λ i. near i == 1) (range_with_len (from + 1) (n + more)) in
    let rest : List ℕ = filter (λ i. bit i == 1) (range_with_len (from + 1) n) in
    ap (in_range near base from) (let e : suc n + more ≡ suc (n + more) = omega arith in e)
    ∙ ap (λ (b : Bool). map (λ i. base + i) (cond b (from ∷ picked) picked)) (ap (λ (v : ℕ). v == 1) (is from) ∙ picked_test (p (base + from)) (bit from))
    ∙ picked_first p base from (p (base + from)) (bit from == 1) rest picked refl (in_range_picked p bit near base (from + 1) n more is (λ i low. none i (omega (arith, low))))

pub set_bits_picked : (p : ℕ → Bool) (base : ℕ) (bits near : List ℕ) → length bits ≤ length near → ((i : ℕ) → bit_of near i ≡ cond (p (base + i)) (bit_of bits i) 0)
    → set_bits base near ≡ filter p (set_bits base bits)
unfolding numbers_of_bits
set_bits_picked p base bits near few is =
    ap (in_range (bit_of near) base 0) (let e : 8 * length near ≡ 8 * length bits + (8 * length near - 8 * length bits) = omega (arith, few) in e)
    ∙ in_range_picked p (bit_of bits) (bit_of near) base 0 (8 * length bits) (8 * length near - 8 * length bits) is
    (λ i past. is i ∙ unset (p (base + i)) (bit_of bits i) (past_bits bits i (omega (arith, past))))

-- ---- who passes a hit is near it

not_near : (w from n : ℕ) → is_near w from n ≡ false → (n < from) ⊎ (from < n - w)
not_near w from n far = elim (cases_lt n from) as (λ _. (n < from) ⊎ (from < n - w)) [ inl below ↦ inl below | inr above ↦ inr (past above far) ]
  where
    past : from ≤ n → is_near w from n ≡ false → from < n - w
    past above far = grind (arith, nat_tests)

flat_map_filter : (f : ℕ → List ℕ) (p : ℕ → Bool) (xs : List ℕ) → ((x : ℕ) → p x ≡ false → f x ≡ []) → flat_map f (filter p xs) ≡ flat_map f xs
flat_map_filter f p [] none = refl
flat_map_filter f p (x ∷ xs) none = first (p x) (none x) ∙ ap (λ (ys : List ℕ). f x ++ ys) (flat_map_filter f p xs none)
  where
    first : (t : Bool) → (t ≡ false → f x ≡ []) → flat_map f (cond t (x ∷ filter p xs) (filter p xs)) ≡ f x ++ flat_map f (filter p xs)
    first true nil = refl
    first false nil = sym (ap (λ (ys : List ℕ). ys ++ flat_map f (filter p xs)) (nil refl))

-- of the documents with a slot near the hit all are noted that are noted of all
pub near_noted : (w : ℕ) (last : Hit) (slot : ℕ → ℕ) (docs : List ℕ)
    → flat_map (λ d. crossed d (slot d - w) (slot d) last) (filter (λ d. is_near w last.score (slot d)) docs) ≡ flat_map (λ d. crossed d (slot d - w) (slot d) last) docs
near_noted w last slot docs =
    flat_map_filter (λ d. crossed d (slot d - w) (slot d) last) (λ d. is_near w last.score (slot d)) docs
    (λ d far. not_crossed d (slot d - w) (slot d) last (not_near w last.score (slot d) far))
