use Rattle.std.proofs.Common.{◌≡◌, ◌+◌, List, ◌++◌, length, slice_range, ap, ap₂, sym, ◌∙◌, arith}
use Rattle.shared_lemmas.proofs.Common.{All-append, append_assoc, length-append}
use Rattle.index_model.specs.Index.{SegmentData}
use Rattle.shard_search.proofs.Growing.{segment_grows}
use Rattle.shard_search.proofs.Pieces.{two_pieces}
use Rattle.shard_search.proofs.Tables.{row_counts, row_is, row_pieces, row_some}
use Rattle.index_model.specs.Merging.{joined_segment}
use Rattle.shard_search.specs.Parts.{IsPartSegment, pieces_docs}
use Rattle.shard_search.specs.Private.Tables.{row_segment}
use Rattle.shard_search.specs.declared.rows.PartSegment.{PartSegment}
use Rattle.shard_search.proofs.table.Table.join_segments.Goals as goal

pub returns : goal.returns
returns c =
    let files = c.args.parts.now in
    let own = c.args.own in
    let other = c.args.other in
    let mine = slice_range c.args.first.now.pieces own.from own.to in
    let theirs = slice_range c.args.second.now.pieces other.from other.to in
    let sizes = length-append mine theirs in
    let some = row_some files c.args.first.now.pieces own c.requires.own in
    let docs = two_pieces files mine theirs in
    let counts : c.in-Some.count ≡ length (pieces_docs files (mine ++ theirs)) =
    c.in-Some.ensures.1
    ∙ ap₂ ◌+◌ (row_counts files c.args.first.now.pieces own c.requires.own) (row_counts files c.args.second.now.pieces other c.requires.other)
    ∙ sym (ap length docs ∙ length-append (pieces_docs files mine) (pieces_docs files theirs))
    in
    segment_grows files c.args.self.now c.requires.stands (mine ++ theirs) own.impact c.in-Some.count
    (All-append (IsPartSegment files) mine theirs (row_pieces files c.args.first.now.pieces own c.requires.first.pieces) (row_pieces files c.args.second.now.pieces other c.requires.second.pieces))
    (omega (arith, sizes, some)) counts
    c.put_segment.new.self c.extend-2.new.self c.len-from.result (joined_segment (row_segment files c.args.first.now.pieces own) (row_segment files c.args.second.now.pieces other))
    (c.in_ok-extend-2.ensures.ok
    ∙ ap₂ (λ (l ps : List PartSegment). l ++ slice_range ps other.from other.to) (c.in_ok-extend.ensures.ok ∙ ap (λ (ps : List PartSegment). c.args.self.now.pieces ++ slice_range ps own.from own.to) c.as_slice.ensures) c.as_slice-2.ensures
    ∙ append_assoc c.args.self.now.pieces mine theirs)
    c.put_segment.ensures.pieces c.len-from.ensures c.in_ok-put_segment.ensures.segments c.put_segment.ensures.terms
    (ap (λ docs. (let s : SegmentData = record { impact = own.impact; docs = docs } in s)) docs
    ∙ ap₂ joined_segment (row_is files c.args.first.now.pieces own) (row_is files c.args.second.now.pieces other))
