-- The parts of a union by their numbers.
use Rattle.std.specs.Prelude.{ℕ, ◌<◌, ◌+◌, List, [], length, map, take}
use Rattle.std.specs.List.{flat_map, slice_index_or, sum_by}
use Rattle.index_model.specs.Index.{IndexData}
use Rattle.index_model.specs.Querying.{segments_at}
use Rattle.index_layout.specs.View.{FileView}
use Rattle.index_file.specs.Places.{segment_at}
use Rattle.shard_search.specs.Sums.{file_docs}
use Rattle.shard_search.specs.declared.rows.PartSegment.{PartSegment}

-- the file with a number, one of nothing where there is no such file
abbrev pub file_at : List FileView → ℕ → FileView
file_at files part = slice_index_or files part (record { index = record { names = []; terms = [] }; codecs = [] })

-- the index of a part
abbrev pub index_at : List FileView → ℕ → IndexData
index_at files part = (file_at files part).index

-- how many documents the parts before a part have
abbrev pub base_of : List FileView → ℕ → ℕ
base_of files part = sum_by file_docs (take part files)

-- the part has this segment
pub record IsPartSegment (files : List FileView) (piece : PartSegment) : Type 0 where
  pub part : piece.part < length files
  pub term : piece.term < length (index_at files piece.part).terms
  pub segment : piece.segment < length (segments_at (index_at files piece.part).terms piece.term)

-- the documents of a part's segment, raised
unfoldable pub piece_docs : List FileView → PartSegment → List ℕ
piece_docs files piece = map (λ d. base_of files piece.part + d) (segment_at (index_at files piece.part).terms piece.term piece.segment).docs

-- the documents of part segments, one after the other
abbrev pub pieces_docs : List FileView → List PartSegment → List ℕ
pieces_docs files pieces = flat_map (piece_docs files) pieces
