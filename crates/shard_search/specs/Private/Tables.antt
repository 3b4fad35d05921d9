-- What the table of a union tells.
use Rattle.std.specs.Prelude.{◌≡◌, ◌<◌, ◌≤◌, List, [], ◌∷◌, ◌++◌, length, map, All, slice_range}
use Rattle.index_model.specs.Index.{SegmentData, TermData}
use Rattle.index_layout.specs.View.{FileView}
use Rattle.index_file.specs.Places.{term_at}
use Rattle.shard_search.specs.Parts.{IsPartSegment, index_at, pieces_docs}
use Rattle.shard_search.specs.declared.rows.PartSegment.{PartSegment}
use Rattle.shard_search.specs.declared.rows.SegmentRow.{SegmentRow}
use Rattle.shard_search.specs.declared.rows.TermRow.{TermRow}
use Rattle.shard_search.specs.declared.rows.Span.{Span}
use Rattle.shard_search.specs.declared.table.Table.{Table}

-- the segment of a row
unfoldable pub row_segment : List FileView → List PartSegment → SegmentRow → SegmentData
row_segment files pieces row = record { impact = row.impact; docs = pieces_docs files (slice_range pieces row.from row.to) }

-- the segments of a table
unfoldable pub told_segments : List FileView → Table → List SegmentData
told_segments files t = map (row_segment files t.pieces) t.segments

-- the segments of a table from a place to another
unfoldable pub span_segments : List FileView → Table → Span → List SegmentData
span_segments files t span = map (row_segment files t.pieces) (slice_range t.segments span.from span.to)

-- the term of a row
unfoldable pub row_term : List FileView → Table → TermRow → TermData
row_term files t row = record { term = term_at (index_at files row.part).terms row.term; segments = span_segments files t row.span }

-- the terms of a table
unfoldable pub told_terms : List FileView → Table → List TermData
told_terms files t = map (row_term files t) t.terms

-- a row of a segment joins one part segment at least, and counts its documents
pub record IsSegmentRow (files : List FileView) (pieces : List PartSegment) (row : SegmentRow) : Type 0 where
  pub some : row.from < row.to
  pub within : row.to ≤ length pieces
  pub count : row.count ≡ length (row_segment files pieces row).docs

-- a span of rows
pub record IsSpan {A : Type 0} (rows : List A) (span : Span) : Type 0 where
  pub order : span.from ≤ span.to
  pub within : span.to ≤ length rows

-- a row of a term: a part has the term, and the segments are there
pub record IsTermRow (files : List FileView) (segments : List SegmentRow) (row : TermRow) : Type 0 where
  pub part : row.part < length files
  pub term : row.term < length (index_at files row.part).terms
  pub span : IsSpan segments row.span

-- the rows of a table stand for what the parts have
pub record IsTable (files : List FileView) (t : Table) : Type 0 where
  pub pieces : All (IsPartSegment files) t.pieces
  pub segments : All (IsSegmentRow files t.pieces) t.segments
  pub terms : All (IsTermRow files t.segments) t.terms

-- a table has these segments more, and the same terms
pub record Grows (files : List FileView) (old new : Table) (more : List SegmentData) : Type 0 where
  pub segments : told_segments files new ≡ told_segments files old ++ more
  pub terms : told_terms files new ≡ told_terms files old
  pub stands : IsTable files new

-- a table has this term more
pub record GrowsTerm (files : List FileView) (old new : Table) (more : TermData) : Type 0 where
  pub terms : told_terms files new ≡ told_terms files old ++ more ∷ []
  pub stands : IsTable files new
