-- Sources of segments: what a search may rest on, and the pieces in which the documents of a segment are handed out.
use Rattle.std.specs.Prelude.{ℕ, ◌≡◌, ◌≢◌, ◌+◌, ◌*◌, ◌≤◌, List, [], ◌++◌, length, take}
use Rattle.jass_base.specs.declared.limits.TheConstants.{MOST_DOCUMENTS, MOST_POSTINGS}
use Rattle.lane_kernels.specs.Bitmap.{set_bits}
use Rattle.index_model.specs.Index.{IndexData, IsWellFormed}
use Rattle.index_layout.specs.View.{index_postings}
use Rattle.index_file.specs.declared.piece.Piece.{Piece}
use Rattle.index_file.specs.declared.piece.Piece.TheVariants.{Block, Bits}

-- an index that can be searched: its numbers are within their limits, and it has at most 2^29 postings
pub record IsSearchable (index : IndexData) : Type 0 where
  pub is_well_formed : IsWellFormed index
  pub postings : index_postings index ≤ MOST_POSTINGS

-- the documents of a piece: those at the front of a block, or those whose bits are set
abbrev pub piece_docs : Piece → List ℕ → List ℕ
piece_docs (Block count) block = take count block
piece_docs (Bits row bits count) block = set_bits (128 * row) bits.now

-- how many documents a piece says that it has
abbrev pub piece_count : Piece → ℕ
piece_count (Block count) = count
piece_count (Bits row bits count) = count

-- a block has at most 128 documents, and bits stand for documents below the greatest number of documents
abbrev pub IsPiece : Piece → Type 0
IsPiece (Block count) = count ≤ 128
IsPiece (Bits row bits count) = 128 * row + 8 * length bits.now ≤ MOST_DOCUMENTS

-- a piece has the first of some documents, as many as it says, and one at least where there is any; the others are left
pub record HandsOut (left : List ℕ → Type 0) (piece : Piece) (block docs : List ℕ) : Type 0 where
  pub rest : List ℕ
  pub parted : piece_docs piece block ++ rest ≡ docs
  pub stays : left rest
  pub count : piece_count piece ≡ length (piece_docs piece block)
  pub some : docs ≢ [] → 1 ≤ piece_count piece
