use Rattle.std.proofs.Common.{List, ◌++◌, slice_range, ap, ◌∙◌}
use Rattle.shard_search.proofs.Growing.{segment_grows}
use Rattle.shard_search.proofs.Tables.{row_counts, row_is, row_pieces, row_some}
use Rattle.shard_search.specs.Private.Tables.{row_segment}
use Rattle.shard_search.specs.declared.rows.PartSegment.{PartSegment}
use Rattle.shard_search.proofs.table.Table.copy_segment.Goals as goal

pub returns : goal.returns
returns c =
    let files = c.args.parts.now in
    let row = c.args.row in
    let pieces = c.args.table.now.pieces in
    segment_grows files c.args.self.now c.requires.stands (slice_range pieces row.from row.to) row.impact row.count
    (row_pieces files pieces row c.requires.table.pieces) (row_some files pieces row c.requires.row) (row_counts files pieces row c.requires.row)
    c.put_segment.new.self c.extend.new.self c.len-from.result (row_segment files pieces row)
    (c.in_ok-extend.ensures.ok ∙ ap (λ (ps : List PartSegment). c.args.self.now.pieces ++ slice_range ps row.from row.to) c.as_slice.ensures)
    c.put_segment.ensures.pieces c.len-from.ensures c.in_ok-put_segment.ensures.segments c.put_segment.ensures.terms
    (row_is files pieces row)
