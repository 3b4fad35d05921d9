-- What private functions say. No public contract cites it.
use Rattle.std.specs.Prelude.{ℕ, ◌≡◌, ◌-◌, ◌*◌, ◌<◌, ◌≤◌, ◌^◌, List, length, All, Result, Ok, Err, suc, drop}
use Rattle.jass_base.specs.Gaps.{gaps_from, spelled_gaps, read_gaps}
use Rattle.jass_base.specs.declared.payload_fault.PayloadFault.{PayloadFault}
use Rattle.lane_kernels.specs.Block.{block_bytes, block_values}
use Rattle.lane_kernels.specs.Width.{least_width}
use Rattle.codec_packed.specs.Giving.{AreFrom}
use Rattle.codec_packed.specs.Reading.{block_in, read_blocks}
use Rattle.jass_base.specs.declared.limits.TheConstants.{MOST_DOCUMENTS}

-- what the kernels' laws say of blocks
pub record BlockLaws : Type 0 where
  pub values : (values : List ℕ) (width : ℕ) → length values ≡ 128 → All (λ value. value < 2 ^ width) values → block_values (block_bytes values width) width ≡ values
  pub packed : (bytes : List ℕ) (width : ℕ) → length bytes ≡ 16 * width → All (λ byte. byte < 256) bytes → block_bytes (block_values bytes width) width ≡ bytes
  pub count : (bytes : List ℕ) (width : ℕ) → length (block_values bytes width) ≡ 128
  pub size : (values : List ℕ) (width : ℕ) → length (block_bytes values width) ≡ 16 * width
  pub holds : (values : List ℕ) → All (λ value. value < 2 ^ 32) values → All (λ value. value < 2 ^ least_width values) values
  pub least : (values : List ℕ) (width : ℕ) → All (λ value. value < 2 ^ 32) values → All (λ value. value < 2 ^ width) values → least_width values ≤ width

-- what the laws of gaps say of the gaps behind the blocks
pub record TailLaws : Type 0 where
  pub found : (d least n : ℕ) (docs : List ℕ) → d ≤ MOST_DOCUMENTS → AreFrom d least docs → length docs ≡ n → read_gaps d least n (spelled_gaps (gaps_from least docs)) ≡ Ok docs
  pub only : (d least n : ℕ) (docs bytes : List ℕ) → All (λ byte. byte < 256) bytes → read_gaps d least n bytes ≡ Ok docs
      → AreFrom d least docs × (length docs ≡ n) × (bytes ≡ spelled_gaps (gaps_from least docs))

-- what a check says of bytes that are read so
abbrev pub verdict : Result (List ℕ) PayloadFault → Result (Unit {0}) PayloadFault
verdict (Ok docs) = Ok tt
verdict (Err fault) = Err fault

-- the block at a place, with its gaps and the place behind it, or its fault
abbrev pub ReadsBlock : List ℕ → ℕ → List ℕ → Result ℕ PayloadFault → Type 0
ReadsBlock bytes at gaps (Ok behind) = (block_in (drop at bytes) ≡ Ok (record { gaps = gaps; size = behind - at })) × (at < behind) × (behind ≤ length bytes)
ReadsBlock bytes at gaps (Err fault) = block_in (drop at bytes) ≡ Err fault

-- behind a block at a place the check goes on at another, or it ends with the block's fault
abbrev pub ChecksBlock : ℕ → List ℕ → ℕ → ℕ → Result (ℕ × ℕ) PayloadFault → Type 0
ChecksBlock d bytes at least (Ok next) = ((blocks rest : ℕ) → verdict (read_blocks d least (suc blocks) rest (drop at bytes)) ≡ verdict (read_blocks d next.1 blocks rest (drop next.0 bytes)))
    × (next.0 ≤ length bytes) × (next.1 ≤ d)
ChecksBlock d bytes at least (Err fault) = (blocks rest : ℕ) → verdict (read_blocks d least (suc blocks) rest (drop at bytes)) ≡ Err fault
