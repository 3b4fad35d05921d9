-- Values that are packed into lanes, a row at a time.
use Rattle.shared_lemmas.proofs.Common.{◌≡◌, ℕ, zero, suc, ◌+◌, ◌-◌, ◌*◌, ◌/◌, ◌%◌, ◌^◌, ◌<◌, ◌≤◌, List, [], ◌∷◌, length, get_or, replicate, bit_or, All, sym, ap, refl, ◌∙◌, subst, arith, inl, inr, bit_at, cases_lt, or_lt, shl_below, shr_below, shr-shr, mod_below, pow_pos, div-mul-add, mod-mul-add}
use Rattle.shared_lemmas.proofs.Common.{row_fits, bit_at_above, bit_at_or, bit_at-lt, get_or-chunk, length-chunk, get_or-put_chunk_below, get_or-put_chunk_at, get_or_narrower}
use Rattle.std.proofs.Math.Pow.{pow_mono}
use Rattle.shared_lemmas.proofs.Places.{same_four}
use Rattle.shared_lemmas.proofs.Bits.{bit_at-mod}
use Rattle.lane_kernels.specs.Block.{number_of_bits, packed_bit, block_byte}
use Rattle.lane_kernels.specs.Private.Lanes.{pending_lanes}
use Rattle.lane_kernels.proofs.Bits.{bit_at-shr, bit_at-shl, bit_at-shl_below, bit_at_number, number_below, number_is, same_numbers}
use Rattle.lane_kernels.proofs.Running.{by_lanes}
use lib.Lanes.{zip2, chunk, put_chunk, digits_l, number_l, Each1}

-- ---- one lane: a value joins the bits before it
module _ (bit : ℕ → ℕ) (small : (x : ℕ) → bit x < 2) (first width value : ℕ) (below : value < 2 ^ width) (narrow : width ≤ 32)
    (is : (u : ℕ) → u < width → bit_at value u ≡ bit (first + u)) where
  -- n bits of the word that bit x is in
  abbrev bits_of_word : ℕ → ℕ → ℕ
  bits_of_word x n = number_of_bits (λ v. bit (32 * (x / 32) + v)) n

  abbrev joined : ℕ
  joined = bit_or (bits_of_word first (first % 32)) (value * 2 ^ (first % 32) % 2 ^ 32)

  joined_bits : (v : ℕ) → v < 32 → v < first % 32 + width → bit_at joined v ≡ bit (32 * (first / 32) + v)
  joined_bits v word inside =
      let s : ℕ = first % 32 in
      let before : ℕ = bits_of_word first s in
      let shifted : ℕ = value * 2 ^ s in
      let high : bit_at (shifted % 2 ^ 32) v ≡ bit_at shifted v = bit_at-mod shifted 32 v word in
      bit_at_or before (shifted % 2 ^ 32) v
      ∙ elim (cases_lt v s) [
        | inl l ↦
            omega (arith, bit_at-shl_below value s v l, bit_at_number (λ u. bit (32 * (first / 32) + u)) s (λ u _. small (32 * (first / 32) + u)) v l)
        | inr g ↦
            let none : bit_at before v ≡ 0 = bit_at_above before s v (number_below (λ u. bit (32 * (first / 32) + u)) s (λ u _. small (32 * (first / 32) + u))) g in
            let place : bit (first + (v - s)) ≡ bit (32 * (first / 32) + v) = ap bit (omega arith) in
            omega (arith, is (v - s) (omega arith), bit_at-shl value s v g)
      ]

  -- where the word is not yet full
  pub joined_waits : first % 32 + width < 32 → joined ≡ bits_of_word (first + width) ((first + width) % 32)
  joined_waits room =
      let s : ℕ = first % 32 in
      let n : ℕ = s + width in
      let before_below : bits_of_word first s < 2 ^ n =
      (let wider : 2 ^ s ≤ 2 ^ n = pow_mono (omega arith) in
      omega (arith, number_below (λ u. bit (32 * (first / 32) + u)) s (λ u _. small (32 * (first / 32) + u)))) in
      let turned : width + s ≡ n = omega arith in
      let shifted_below : value * 2 ^ s % 2 ^ 32 < 2 ^ n = omega (arith, shl_below value width s below, ap (λ k. 2 ^ k) turned) in
      number_is (λ v. bit (32 * (first / 32) + v)) n joined (or_lt n _ _ before_below shifted_below) (λ v h. joined_bits v (omega arith) h)
      ∙ ap (λ k. number_of_bits (λ v. bit (32 * k + v)) n) (let e : first / 32 ≡ (first + width) / 32 = omega arith in e)
      ∙ ap (bits_of_word (first + width)) (let e : n ≡ (first + width) % 32 = omega arith in e)

  -- where it is
  pub joined_full : 32 ≤ first % 32 + width → joined ≡ bits_of_word first 32
  joined_full full =
      let s : ℕ = first % 32 in
      let before_below : bits_of_word first s < 2 ^ 32 =
      (let wider : 2 ^ s ≤ 2 ^ 32 = pow_mono {i = s} {j = 32} (omega arith) in
      omega (arith, number_below (λ u. bit (32 * (first / 32) + u)) s (λ u _. small (32 * (first / 32) + u)))) in
      number_is (λ v. bit (32 * (first / 32) + v)) 32 joined
      (or_lt 32 _ _ before_below (mod_below (value * 2 ^ s) (2 ^ 32) (pow_pos 32))) (λ v h. joined_bits v h (omega arith))

  -- the bits that the full word has no room for
  pub rest_waits : 32 ≤ first % 32 + width → value / 2 ^ 1 / 2 ^ (31 - first % 32) ≡ bits_of_word (first + width) ((first + width) % 32)
  rest_waits full =
      let s : ℕ = first % 32 in
      let n : ℕ = s + width - 32 in
      let next : ℕ = first / 32 + 1 in
      let one : value / 2 ^ 1 / 2 ^ (31 - s) ≡ value / 2 ^ (32 - s) = shr-shr value 1 (31 - s) ∙ ap (λ k. value / 2 ^ k) (let e : 1 + (31 - s) ≡ 32 - s = omega arith in e) in
      let wide : value < 2 ^ (n + (32 - s)) = subst (λ k. value < 2 ^ k) (let e : width ≡ n + (32 - s) = omega arith in e) below in
      one
      ∙ number_is (λ v. bit (32 * next + v)) n (value / 2 ^ (32 - s)) (shr_below value n (32 - s) wide)
      (λ v h. bit_at-shr value (32 - s) v ∙ is (32 - s + v) (omega arith) ∙ ap bit (let e : first + (32 - s + v) ≡ 32 * next + v = omega arith in e))
      ∙ ap (λ k. number_of_bits (λ v. bit (32 * k + v)) n) (let e : next ≡ (first + width) / 32 = omega arith in e)
      ∙ ap (bits_of_word (first + width)) (let e : n ≡ (first + width) % 32 = omega arith in e)

-- byte i of a word of 32 bits
pow_of_byte : (i : ℕ) → i < 4 → 256 ^ i ≡ 2 ^ (8 * i)
pow_of_byte zero h = refl
pow_of_byte (suc zero) h = refl
pow_of_byte (suc (suc zero)) h = refl
pow_of_byte (suc (suc (suc zero))) h = refl
pow_of_byte (suc (suc (suc (suc i)))) h = absurd (omega arith)

byte_of_word : (bit : ℕ → ℕ) → ((x : ℕ) → bit x < 2) → (i : ℕ) → i < 4 → number_of_bits bit 32 / 256 ^ i % 256 ≡ number_of_bits (λ v. bit (8 * i + v)) 8
byte_of_word bit small i h =
    let word : ℕ = number_of_bits bit 32 in
    ap (λ p. word / p % 256) (pow_of_byte i h)
    ∙ number_is (λ v. bit (8 * i + v)) 8 (word / 2 ^ (8 * i) % 2 ^ 8) (mod_below (word / 2 ^ (8 * i)) (2 ^ 8) (pow_pos 8))
    (λ v l. bit_at-mod (word / 2 ^ (8 * i)) 8 v l ∙ bit_at-shr word (8 * i) v ∙ bit_at_number bit 32 (λ x _. small x) (8 * i + v) (omega arith))

four_reads : (xs : List ℕ) → length xs ≡ 4 → xs ≡ get_or xs 0 0 ∷ get_or xs 1 0 ∷ get_or xs 2 0 ∷ get_or xs 3 0 ∷ []
four_reads = by_lanes (λ xs. xs ≡ get_or xs 0 0 ∷ get_or xs 1 0 ∷ get_or xs 2 0 ∷ get_or xs 3 0 ∷ []) (λ a b c d. refl)

pub get_or_of_four : (f : ℕ → ℕ) (l : ℕ) → l < 4 → get_or (f 0 ∷ f 1 ∷ f 2 ∷ f 3 ∷ []) l 0 ≡ f l
get_or_of_four f zero h = refl
get_or_of_four f (suc zero) h = refl
get_or_of_four f (suc (suc zero)) h = refl
get_or_of_four f (suc (suc (suc zero))) h = refl
get_or_of_four f (suc (suc (suc (suc l)))) h = absurd (omega arith)

-- ---- a row: the same of four lanes
module _ (values : List ℕ) (width row : ℕ) (long : length values ≡ 128) (some : 0 < width) (narrow : width ≤ 32) (within : row < 32) (fits : All (λ v. v < 2 ^ width) values)
    (loaded : List ℕ) (is : loaded ≡ chunk (4 * row) 4 values) where
  abbrev first : ℕ
  first = row * width

  value_of : ℕ → ℕ
  value_of lane = get_or values (4 * row + lane) 0

  loaded_are : loaded ≡ value_of 0 ∷ value_of 1 ∷ value_of 2 ∷ value_of 3 ∷ []
  unfolding value_of
  loaded_are =
      let read = λ (l : ℕ) (h : l < 4). (let e : get_or loaded l 0 ≡ get_or values (4 * row + l) 0 = ap (λ (xs : List ℕ). get_or xs l 0) is ∙ get_or-chunk (4 * row) 4 values l 0 h in e) in
      four_reads loaded (ap length is ∙ length-chunk (4 * row) 4 values (omega arith))
      ∙ same_four (read 0 (omega arith)) (read 1 (omega arith)) (read 2 (omega arith)) (read 3 (omega arith))

  value_below : (lane : ℕ) → lane < 4 → value_of lane < 2 ^ width
  unfolding value_of
  value_below lane h = fits (4 * row + lane) 0 (omega arith)

  value_bits : (lane u : ℕ) → u < width → bit_at (value_of lane) u ≡ packed_bit values width lane (first + u)
  unfolding value_of
  value_bits lane u h =
      sym (ap (λ q. bit_at (get_or values (4 * q + lane) 0) ((first + u) % width)) (div-mul-add row width u h)
      ∙ ap (bit_at (get_or values (4 * row + lane) 0)) (mod-mul-add row width u h))

  small : (lane x : ℕ) → packed_bit values width lane x < 2
  small lane x = bit_at-lt (get_or values (4 * (x / width) + lane) 0) (x % width)

  abbrev shl : ℕ → ℕ → ℕ
  shl a k = a * 2 ^ k % 2 ^ 32

  abbrev shr : ℕ → ℕ → ℕ
  shr a k = a / 2 ^ k

  -- the full words of the lanes
  abbrev full_word : ℕ → ℕ
  full_word lane = number_of_bits (λ v. packed_bit values width lane (32 * (first / 32) + v)) 32

  module _ (pending : List ℕ) (waits : pending ≡ pending_lanes values width first) where
    opened : zip2 bit_or pending (zip2 shl loaded (replicate 4 (first % 32)))
        ≡ zip2 bit_or (pending_lanes values width first) (zip2 shl (value_of 0 ∷ value_of 1 ∷ value_of 2 ∷ value_of 3 ∷ []) (replicate 4 (first % 32)))
    opened =
        ap (λ (xs : List ℕ). zip2 bit_or xs (zip2 shl loaded (replicate 4 (first % 32)))) waits
        ∙ ap (λ (xs : List ℕ). zip2 bit_or (pending_lanes values width first) (zip2 shl xs (replicate 4 (first % 32)))) loaded_are

    pub row_waits : first % 32 + width < 32 → zip2 bit_or pending (zip2 shl loaded (replicate 4 (first % 32))) ≡ pending_lanes values width (first + width)
    row_waits room =
        let lane = λ (l : ℕ) (h : l < 4). joined_waits (packed_bit values width l) (small l) first width (value_of l) (value_below l h) narrow (value_bits l) room in
        opened ∙ same_four (lane 0 (omega arith)) (lane 1 (omega arith)) (lane 2 (omega arith)) (lane 3 (omega arith))

    pub row_full : 32 ≤ first % 32 + width → zip2 bit_or pending (zip2 shl loaded (replicate 4 (first % 32))) ≡ full_word 0 ∷ full_word 1 ∷ full_word 2 ∷ full_word 3 ∷ []
    row_full full =
        let lane = λ (l : ℕ) (h : l < 4). joined_full (packed_bit values width l) (small l) first width (value_of l) (value_below l h) narrow (value_bits l) full in
        opened ∙ same_four (lane 0 (omega arith)) (lane 1 (omega arith)) (lane 2 (omega arith)) (lane 3 (omega arith))

  pub row_rest : 32 ≤ first % 32 + width → zip2 shr (zip2 shr loaded (replicate 4 1)) (replicate 4 (31 - first % 32)) ≡ pending_lanes values width (first + width)
  row_rest full =
      let lane = λ (l : ℕ) (h : l < 4). rest_waits (packed_bit values width l) (small l) first width (value_of l) (value_below l h) narrow (value_bits l) full in
      ap (λ (xs : List ℕ). zip2 shr (zip2 shr xs (replicate 4 1)) (replicate 4 (31 - first % 32))) loaded_are
      ∙ same_four (lane 0 (omega arith)) (lane 1 (omega arith)) (lane 2 (omega arith)) (lane 3 (omega arith))

  -- the words that are written
  pub bytes_more : (out words : List ℕ) → 16 * (first / 32) + 16 ≤ length out → words ≡ full_word 0 ∷ full_word 1 ∷ full_word 2 ∷ full_word 3 ∷ [] → 32 ≤ first % 32 + width
      → ((k : ℕ) → k < 16 * (first / 32) → get_or out k 0 ≡ block_byte values width k)
      → (k : ℕ) → k < 16 * ((first + width) / 32) → get_or (put_chunk (16 * (first / 32)) out (digits_l 256 16 (number_l (2 ^ 32) words))) k 0 ≡ block_byte values width k
  bytes_more out words room are full done k h =
      let q : ℕ = first / 32 in
      let bytes : List ℕ = digits_l 256 16 (number_l (2 ^ 32) words) in
      elim (cases_lt k (16 * q)) [
        | inl l ↦ get_or-put_chunk_below (16 * q) out bytes k 0 l ∙ done k l
        | inr g ↦
            let lane : ℕ = k % 16 / 4 in
            let i : ℕ = k % 4 in
            let place : k ≡ 16 * q + (4 * lane + i) = omega arith in
            let below = λ (l : ℕ). number_below (λ v. packed_bit values width l (32 * q + v)) 32 (λ v _. small l (32 * q + v)) in
            let each : Each1 (λ x. x < 2 ^ 32) words = subst (Each1 (λ x. x < 2 ^ 32)) (sym are) (below 0, (below 1, (below 2, (below 3, tt)))) in
            ap (λ n. get_or (put_chunk (16 * q) out bytes) n 0) place
            ∙ get_or-put_chunk_at (16 * q) out bytes (4 * lane + i) 0 (let e : 4 * lane + i < 16 = omega arith in e) room
            ∙ get_or_narrower (2 ^ 32) 4 256 16 words lane i refl each (omega arith) (omega arith)
            ∙ ap (λ (xs : List ℕ). get_or xs lane 0 / 256 ^ i % 256) are
            ∙ ap (λ x. x / 256 ^ i % 256) (get_or_of_four full_word lane (omega arith))
            ∙ byte_of_word (λ v. packed_bit values width lane (32 * q + v)) (λ v. small lane (32 * q + v)) i (omega arith)
            ∙ same_numbers (λ v. packed_bit values width lane (32 * q + (8 * i + v))) (λ v. packed_bit values width lane (32 * (k / 16) + 8 * i + v)) 8
            (λ v l. ap (packed_bit values width lane) (let e : 32 * q + (8 * i + v) ≡ 32 * (k / 16) + 8 * i + v = omega arith in e))
      ]

-- the word of a row is in the block
pub room_for_row : (width row : ℕ) → 0 < width → row < 32 → 16 * (row * width / 32) + 16 ≤ 16 * width
room_for_row width row some within = omega (arith, row_fits row width 32 width within (let e : width ≤ width = omega arith in e))

-- before the first row nothing waits
pub none_pending : (values : List ℕ) (width x : ℕ) → x ≡ 0 → replicate 4 0 ≡ pending_lanes values width x
unfolding number_of_bits
none_pending values width x none = sym (ap (pending_lanes values width) none)
