-- The union as callers see it.
use Rattle.std.specs.Prelude.{ℕ, ◌≡◌, ◌<◌, ◌≤◌, ◌+◌, List, ◌++◌, length, map, All, slice_range}
use Rattle.index_model.specs.Index.{IndexData}
use Rattle.index_layout.specs.View.{FileView}
use Rattle.index_file.specs.Giving.{Gives}
use Rattle.shard_search.specs.Parts.{base_of, file_at, pieces_docs}
use Rattle.shard_search.specs.Sums.{file_docs, indexes_of}
use Rattle.index_model.specs.Unions.{union_of}
use Rattle.shard_search.specs.declared.cursor.ShardCursor.{ShardCursor}
use Rattle.shard_search.specs.declared.rows.PartSegment.{PartSegment}

-- several files as one: the files, and the part segments in the order of the union's segments
pub record UnionView : Type 0 where
  pub files : List FileView
  pub pieces : List PartSegment

-- the index of several files as one
unfoldable pub union_index : UnionView → IndexData
union_index view = union_of (indexes_of view.files)

-- a part still gives these of its documents, raised, and then come those of the part segments behind
pub record Leaves (view : UnionView) (cursor : ShardCursor) (docs : List ℕ) : Type 0 where
  pub part : cursor.part < length view.files
  pub rest : List ℕ
  pub gives : Gives (file_at view.files cursor.part) cursor.inner rest
  pub left : cursor.left ≡ length rest
  pub inside : All (λ doc. doc < file_docs (file_at view.files cursor.part)) rest
  pub order : cursor.next ≤ cursor.end
  pub within : cursor.end ≤ length view.pieces
  pub docs_are : docs ≡ map (λ d. base_of view.files cursor.part + d) rest
      ++ pieces_docs view.files (slice_range view.pieces cursor.next cursor.end)
