-- Packed lanes: the gaps of a list in blocks of 128, each at the least width that holds its gaps, and the gaps that are left as
-- shortest varints. The blocks are those of Lemire and Boytsov, "Decoding billions of integers per second through vectorization" (2015).
use Rattle.std.specs.Prelude.{ℕ, zero, suc, ◌/◌, List, ◌∷◌, ◌++◌, length, take, drop}
use Rattle.jass_base.specs.Gaps.{gaps_of, spelled_gaps}
use Rattle.lane_kernels.specs.Block.{block_bytes}
use Rattle.lane_kernels.specs.Width.{least_width}

-- a block: its width as one byte, and its 128 gaps at that width
abbrev pub packed_block : List ℕ → List ℕ
packed_block gaps = least_width gaps ∷ block_bytes gaps (least_width gaps)

-- gaps of which so many blocks are full
abbrev pub packed_gaps : ℕ → List ℕ → List ℕ
packed_gaps zero gaps = spelled_gaps gaps
packed_gaps (suc blocks) gaps = packed_block (take 128 gaps) ++ packed_gaps blocks (drop 128 gaps)

-- the payload of a list of documents
abbrev pub packed_of : List ℕ → List ℕ
packed_of docs = packed_gaps (length docs / 128) (gaps_of docs)
