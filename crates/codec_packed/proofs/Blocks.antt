-- A block that is read is the block of its gaps, and each block is read.
use Rattle.shared_lemmas.proofs.Common.{◌≡◌, ℕ, suc, ◌+◌, ◌*◌, ◌^◌, ◌<◌, ◌≤◌, Bool, true, false, cond, List, [], ◌∷◌, ◌++◌, length, take, drop, All, Result, Ok, Err, refl, sym, ap, ◌∙◌, eqb-true, arith, subst, nat_lt, ◌==◌, le-ltb, ltb-false, get_or-take, get_or-drop, length-drop, length-take}
use Rattle.shared_lemmas.proofs.Common.{length-append, length-take-le, take-append-drop, take_at}
use Rattle.shared_lemmas.proofs.Numbers.{number_itself}
use Rattle.jass_base.specs.declared.payload_fault.PayloadFault.{PayloadFault}
use Rattle.jass_base.specs.declared.payload_fault.PayloadFault.TheVariants.{Cut, Shape}
use Rattle.lane_kernels.specs.Block.{block_bytes, block_values}
use Rattle.lane_kernels.specs.Width.{least_width}
use Rattle.codec_packed.specs.Packing.{packed_block}
use Rattle.codec_packed.specs.Private.Steps.{BlockLaws}
use Rattle.codec_packed.specs.Reading.{PackedBlock, block_at_width, block_in}

-- the answer that a block was read
abbrev pub read_as : List ℕ → ℕ → Result PackedBlock PayloadFault
read_as gaps size = Ok (record { gaps = gaps; size = size })

module _ (laws : BlockLaws) where
  pub block_again : (gaps rest : List ℕ) → length gaps ≡ 128 → All (λ gap. gap < 2 ^ 32) gaps → block_in (packed_block gaps ++ rest) ≡ read_as gaps (16 * least_width gaps + 1)
  unfolding block_in
  block_again gaps rest many small =
      let width = least_width gaps in
      let narrow : nat_lt 32 width ≡ false = le-ltb _ _ (laws.least gaps 32 small small) in
      let size = laws.size gaps width in
      let long : nat_lt (length (block_bytes gaps width ++ rest)) (16 * width) ≡ false = le-ltb _ _ (omega (arith, length-append (block_bytes gaps width) rest, size)) in
      let values : block_values (take (16 * width) (block_bytes gaps width ++ rest)) width ≡ gaps
      = ap (λ (bytes : List ℕ). block_values bytes width) (take_at (block_bytes gaps width) rest (16 * width) size) ∙ laws.values gaps width many (laws.holds gaps small) in
      let same : (width == width) ≡ true = number_itself width in
      rw (narrow, long, values, same) refl

abbrev block_of : List ℕ → ℕ → PackedBlock
block_of gaps size = record { gaps = gaps; size = size }

same_block : (gaps more : List ℕ) (size other : ℕ) → read_as gaps size ≡ read_as more other → block_of gaps size ≡ block_of more other
same_block gaps more size other is = cc

-- what an answer that isn't a fault says of the tests before it
unless : (b : Bool) (fault : PayloadFault) (other : Result PackedBlock PayloadFault) (gaps : List ℕ) (size : ℕ) → cond b (Err fault) other ≡ read_as gaps size → (b ≡ false) × (other ≡ read_as gaps size)
unless true fault other gaps size is = absurd (let e = is in cc)
unless false fault other gaps size is = (refl, is)

where_true : (b : Bool) (fault : PayloadFault) (other : Result PackedBlock PayloadFault) (gaps : List ℕ) (size : ℕ) → cond b other (Err fault) ≡ read_as gaps size → (b ≡ true) × (other ≡ read_as gaps size)
where_true true fault other gaps size is = (refl, is)
where_true false fault other gaps size is = absurd (let e = is in cc)

all_tail : (b : ℕ) (bytes : List ℕ) → All (λ byte. byte < 256) (b ∷ bytes) → All (λ byte. byte < 256) bytes
all_tail b bytes small k d l = small (suc k) d (omega arith)

all_front : (n : ℕ) (bytes : List ℕ) → All (λ byte. byte < 256) bytes → All (λ byte. byte < 256) (take n bytes)
all_front n bytes small k d l = let size = length-take n bytes in rw (get_or-take n bytes k d (omega (arith, size, l))) (small k d (omega (arith, size, l)))

pub all_rest : (n : ℕ) (bytes : List ℕ) → All (λ byte. byte < 256) bytes → All (λ byte. byte < 256) (drop n bytes)
all_rest n bytes small k d l = let size = length-drop n bytes in rw (get_or-drop n bytes k d) (small (n + k) d (omega (arith, size, l)))

-- a block that was read, in front of what is left
pub record StandsBlock (bytes gaps : List ℕ) (size : ℕ) : Type 0 where
  pub parts : bytes ≡ packed_block gaps ++ drop size bytes
  pub count : length gaps ≡ 128

module _ (laws : BlockLaws) where
  width_stands : (width : ℕ) (bytes gaps : List ℕ) (size : ℕ) → All (λ byte. byte < 256) bytes → block_at_width width bytes ≡ read_as gaps size → StandsBlock (width ∷ bytes) gaps size
  width_stands width bytes gaps size small is =
      let front = take (16 * width) bytes in
      let values = block_values front width in
      let there = unless (nat_lt (length bytes) (16 * width)) Cut _ gaps size is in
      let narrow = where_true (least_width values == width) Shape _ gaps size there.1 in
      let enough : 16 * width ≤ length bytes = ltb-false _ _ there.0 in
      let made : block_of values (16 * width + 1) ≡ block_of gaps size = same_block values gaps (16 * width + 1) size narrow.1 in
      let least : least_width values ≡ width = eqb-true _ _ narrow.0 in
      let again : block_bytes values width ≡ front = laws.packed front width (length-take-le (16 * width) bytes enough) (all_front (16 * width) bytes small) in
      let block : packed_block values ≡ width ∷ front = ap (λ n. n ∷ block_bytes values n) least ∙ ap (λ (xs : List ℕ). width ∷ xs) again in
      let next : 16 * width + 1 ≡ suc (16 * width) = omega arith in
      let parts : width ∷ bytes ≡ packed_block values ++ drop (16 * width + 1) (width ∷ bytes) =
      ap (λ (xs : List ℕ). width ∷ xs) (sym (take-append-drop (16 * width) bytes))
      ∙ ap (λ (xs : List ℕ). xs ++ drop (16 * width) bytes) (sym block)
      ∙ ap (λ n. packed_block values ++ drop n (width ∷ bytes)) (sym next) in
      subst (λ (b : PackedBlock). StandsBlock (width ∷ bytes) b.gaps b.size) made (record { parts = parts; count = laws.count front width })

  pub block_stands : (bytes gaps : List ℕ) (size : ℕ) → All (λ byte. byte < 256) bytes → block_in bytes ≡ read_as gaps size → StandsBlock bytes gaps size
  unfolding block_in
  block_stands [] gaps size small is = absurd (let e = is in cc)
  block_stands (width ∷ bytes) gaps size small is =
      let good = unless (nat_lt 32 width) Shape (block_at_width width bytes) gaps size is in
      width_stands width bytes gaps size (all_tail width bytes small) good.1
