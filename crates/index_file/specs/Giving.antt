-- What a cursor still gives of a file.
use Rattle.std.specs.Prelude.{ℕ, ◌+◌, ◌≤◌, List, length, slice_range}
use Rattle.segment_codecs.specs.Giving.{Gives as SegmentGives}
use Rattle.index_layout.specs.View.{FileView, view_payloads}
use Rattle.index_file.specs.declared.cursor.Cursor.{Cursor}

-- the cursor still gives these documents of a segment of the file
pub record Gives (file : FileView) (cursor : Cursor) (docs : List ℕ) : Type 0 where
  pub within : cursor.from + cursor.size ≤ length (view_payloads file)
  pub rest : SegmentGives cursor.segment
      (slice_range (view_payloads file) cursor.from (cursor.from + cursor.size)) docs
