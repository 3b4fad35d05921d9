-- A number out of one word of its lane, or out of two.
use Rattle.shared_lemmas.proofs.Common.{◌≡◌, ℕ, ◌+◌, ◌-◌, ◌*◌, ◌/◌, ◌%◌, ◌^◌, ◌<◌, ◌≤◌, List, length, get_or, replicate, zero, suc, bit_and, bit_or, sym, ap, refl, ◌∙◌, arith, inl, inr, bit_at, cases_lt, and_mask, mod_below, pow_pos, bit_at_above, bit_at_or, ones_shr, get_or-put_chunk_below}
use Rattle.shared_lemmas.proofs.Common.{get_or-put_chunk_at}
use Rattle.shared_lemmas.proofs.Places.{same_four}
use Rattle.shared_lemmas.proofs.Bits.{bit_at-mod}
use Rattle.lane_kernels.specs.Block.{number_of_bits, lane_word, lane_number, block_value}
use Rattle.lane_kernels.specs.Private.Lanes.{lane_words, lane_numbers}
use Rattle.lane_kernels.proofs.Bits.{bit_at-shr, bit_at-shl, bit_at-shl_below, number_is}
use lib.Lanes.{zip2, put_chunk}

-- the words of a lane, and `width` bits of it from `first` on
module _ (word : ℕ → ℕ) (first width : ℕ) where
  abbrev pub field_bits : ℕ → ℕ
  field_bits v = bit_at (word ((first + v) / 32)) ((first + v) % 32)

  masked : (x : ℕ) → ((v : ℕ) → v < width → bit_at x v ≡ field_bits v) → bit_and x (2 ^ width - 1) ≡ number_of_bits field_bits width
  masked x same =
      and_mask x width
      ∙ number_is field_bits width (x % 2 ^ width) (mod_below x (2 ^ width) (pow_pos width)) (λ v h. bit_at-mod x width v h ∙ same v h)

  -- bit v of the field is in the word of its first bit
  in_first : (v : ℕ) → first % 32 + v < 32 → bit_at (word (first / 32)) (first % 32 + v) ≡ field_bits v
  in_first v h =
      let q : (first + v) / 32 ≡ first / 32 = omega arith in
      let r : (first + v) % 32 ≡ first % 32 + v = omega arith in
      sym (ap (λ j. bit_at (word j) ((first + v) % 32)) q ∙ ap (bit_at (word (first / 32))) r)

  in_second : (v : ℕ) → 32 ≤ first % 32 + v → v < 32 → bit_at (word (first / 32 + 1)) (first % 32 + v - 32) ≡ field_bits v
  in_second v h small =
      let q : (first + v) / 32 ≡ first / 32 + 1 = omega arith in
      let r : (first + v) % 32 ≡ first % 32 + v - 32 = omega arith in
      sym (ap (λ j. bit_at (word j) ((first + v) % 32)) q ∙ ap (bit_at (word (first / 32 + 1))) r)

  pub from_one : first % 32 + width ≤ 32 → bit_and (word (first / 32) / 2 ^ (first % 32)) (2 ^ width - 1) ≡ number_of_bits field_bits width
  from_one fits = masked (word (first / 32) / 2 ^ (first % 32)) (λ v h. bit_at-shr (word (first / 32)) (first % 32) v ∙ in_first v (omega arith))

  pub from_two : width ≤ 32 → 32 < first % 32 + width → word (first / 32) < 2 ^ 32
      → bit_and (bit_or (word (first / 32) / 2 ^ (first % 32)) (word (first / 32 + 1) * 2 ^ (32 - first % 32) % 2 ^ 32)) (2 ^ width - 1) ≡ number_of_bits field_bits width
  from_two narrow across small =
      let s : ℕ = first % 32 in
      let a : ℕ = word (first / 32) in
      let b : ℕ = word (first / 32 + 1) in
      masked (bit_or (a / 2 ^ s) (b * 2 ^ (32 - s) % 2 ^ 32)) (λ v h.
      let low : bit_at (a / 2 ^ s) v ≡ bit_at a (s + v) = bit_at-shr a s v in
      let high : bit_at (b * 2 ^ (32 - s) % 2 ^ 32) v ≡ bit_at (b * 2 ^ (32 - s)) v = bit_at-mod (b * 2 ^ (32 - s)) 32 v (omega arith) in
      bit_at_or (a / 2 ^ s) (b * 2 ^ (32 - s) % 2 ^ 32) v
      ∙ elim (cases_lt (s + v) 32) [
        | inl l ↦
            let none : bit_at (b * 2 ^ (32 - s)) v ≡ 0 = bit_at-shl_below b (32 - s) v (omega arith) in
            omega (arith, in_first v l)
        | inr g ↦
            let some : bit_at (b * 2 ^ (32 - s)) v ≡ bit_at b (v - (32 - s)) = bit_at-shl b (32 - s) v (omega arith) in
            let place : bit_at b (v - (32 - s)) ≡ bit_at b (s + v - 32) = ap (bit_at b) (omega arith) in
            omega (arith, in_second v g (omega arith), bit_at_above a 32 (s + v) small g)
      ])

-- ---- a row: the same of four lanes
pub lane_word_below : (bytes : List ℕ) → ((k : ℕ) → get_or bytes k 0 < 256) → (lane j : ℕ) → lane_word bytes lane j < 2 ^ 32
lane_word_below bytes fits lane j = let at : ℕ = 16 * j + 4 * lane in omega (arith, fits at, fits (at + 1), fits (at + 2), fits (at + 3))

mask_is : (width : ℕ) → width ≤ 32 → 4294967295 / 2 ^ (32 - width) ≡ 2 ^ width - 1
mask_is width narrow = ones_shr 32 (32 - width) (omega arith) ∙ ap (λ n. 2 ^ n - 1) (omega arith)

module _ (bytes : List ℕ) (fits : (k : ℕ) → get_or bytes k 0 < 256) (width first : ℕ) (narrow : width ≤ 32) (words : List ℕ) (are : words ≡ lane_words bytes (first / 32)) where
  abbrev shr : ℕ → ℕ → ℕ
  shr a k = a / 2 ^ k

  abbrev shl : ℕ → ℕ → ℕ
  shl a k = a * 2 ^ k % 2 ^ 32

  pub row_from_one : first % 32 + width ≤ 32 → zip2 bit_and (zip2 shr words (replicate 4 (first % 32))) (replicate 4 (4294967295 / 2 ^ (32 - width))) ≡ lane_numbers bytes width first
  row_from_one inside =
      ap (λ m. zip2 bit_and (zip2 shr words (replicate 4 (first % 32))) (replicate 4 m)) (mask_is width narrow)
      ∙ ap (λ (ws : List ℕ). zip2 bit_and (zip2 shr ws (replicate 4 (first % 32))) (replicate 4 (2 ^ width - 1))) are
      ∙ same_four (from_one (lane_word bytes 0) first width inside) (from_one (lane_word bytes 1) first width inside)
      (from_one (lane_word bytes 2) first width inside) (from_one (lane_word bytes 3) first width inside)

  pub row_from_two : (more : List ℕ) → more ≡ lane_words bytes (first / 32 + 1) → 32 < first % 32 + width
      → zip2 bit_and (zip2 bit_or (zip2 shr words (replicate 4 (first % 32))) (zip2 shl more (replicate 4 (32 - first % 32)))) (replicate 4 (4294967295 / 2 ^ (32 - width))) ≡ lane_numbers bytes width first
  row_from_two more next across =
      let lane = λ (l : ℕ). from_two (lane_word bytes l) first width narrow across (lane_word_below bytes fits l (first / 32)) in
      ap (λ m. zip2 bit_and (zip2 bit_or (zip2 shr words (replicate 4 (first % 32))) (zip2 shl more (replicate 4 (32 - first % 32)))) (replicate 4 m)) (mask_is width narrow)
      ∙ ap (λ (ws : List ℕ). zip2 bit_and (zip2 bit_or (zip2 shr ws (replicate 4 (first % 32))) (zip2 shl more (replicate 4 (32 - first % 32)))) (replicate 4 (2 ^ width - 1))) are
      ∙ ap (λ (ws : List ℕ). zip2 bit_and (zip2 bit_or (zip2 shr (lane_words bytes (first / 32)) (replicate 4 (first % 32))) (zip2 shl ws (replicate 4 (32 - first % 32)))) (replicate 4 (2 ^ width - 1))) next
      ∙ same_four (lane 0) (lane 1) (lane 2) (lane 3)

-- ---- the rows of a block
get_or-lane_numbers : (bytes : List ℕ) (width first j : ℕ) → j < 4 → get_or (lane_numbers bytes width first) j 0 ≡ lane_number bytes width j first
get_or-lane_numbers bytes width first zero h = refl
get_or-lane_numbers bytes width first (suc zero) h = refl
get_or-lane_numbers bytes width first (suc (suc zero)) h = refl
get_or-lane_numbers bytes width first (suc (suc (suc zero))) h = refl
get_or-lane_numbers bytes width first (suc (suc (suc (suc j)))) h = absurd (omega arith)

pub rows_more : (bytes out lanes : List ℕ) (width row : ℕ) → length out ≡ 128 → row < 32 → lanes ≡ lane_numbers bytes width (row * width)
    → ((k : ℕ) → k < 4 * row → get_or out k 0 ≡ block_value bytes width k)
    → (k : ℕ) → k < 4 * (row + 1) → get_or (put_chunk (4 * row) out lanes) k 0 ≡ block_value bytes width k
rows_more bytes out lanes width row long within are done k h =
    elim (cases_lt k (4 * row)) [
      | inl l ↦ get_or-put_chunk_below (4 * row) out lanes k 0 l ∙ done k l
      | inr g ↦
          let j : ℕ = k % 4 in
          let place : k ≡ 4 * row + j = omega arith in
          let four : length lanes ≡ 4 = ap length are in
          let lane : get_or (lane_numbers bytes width (row * width)) j 0 ≡ lane_number bytes width j (row * width) = get_or-lane_numbers bytes width (row * width) j (omega arith) in
          ap (λ n. get_or (put_chunk (4 * row) out lanes) n 0) place
          ∙ get_or-put_chunk_at (4 * row) out lanes j 0 (omega arith) (omega arith)
          ∙ ap (λ (xs : List ℕ). get_or xs j 0) are
          ∙ lane
          ∙ ap (λ r. lane_number bytes width j (r * width)) (let e : row ≡ k / 4 = omega arith in e)
    ]

pub block_value_of_none : (bytes : List ℕ) (k : ℕ) → block_value bytes 0 k ≡ 0
unfolding number_of_bits
block_value_of_none bytes k = refl
