use Rattle.std.proofs.Common.{List, [], ◌∷◌, slice_index_or, sym, subst}
use Rattle.shard_search.proofs.Spans.{both_move, ends, first_moves, second_moves}
use Rattle.index_model.specs.Merging.{joined_segment}
use Rattle.shard_search.specs.Private.Tables.{Grows, row_segment}
use Rattle.shard_search.specs.declared.rows.SegmentRow.{SegmentRow}
use Rattle.shard_search.proofs.table.Table.merge_segments.Goals as goal

abbrev none : SegmentRow
none = record { impact = 0; count = 0; from = 0; to = 0 }

pub segments-preserved-in-Less : goal.segments-preserved-in-Less
segments-preserved-in-Less c =
    let files = c.args.parts.now in
    let first = c.args.first.now in
    let at = c.segments.own.from in
    first_moves files first c.args.second.now c.args.own c.args.other c.args.self.now c.segments.own c.segments.other c.segments.self c.copy_segment.new.self c.segments.invariant none
    (c.in-Less.ensures.first (λ is. cc)) (sym (c.in-Less.ensures.order files))
    (subst (λ (rows : List SegmentRow). Grows files c.segments.self c.copy_segment.new.self (row_segment files first.pieces (slice_index_or rows at none) ∷ [])) c.as_slice.ensures
    c.in_ok-copy_segment-in-Less.ensures)

pub segments-preserved-in-Greater : goal.segments-preserved-in-Greater
segments-preserved-in-Greater c =
    let files = c.args.parts.now in
    let second = c.args.second.now in
    let at = c.segments.other.from in
    second_moves files c.args.first.now second c.args.own c.args.other c.args.self.now c.segments.own c.segments.other c.segments.self c.copy_segment-in-Greater.new.self c.segments.invariant none
    (c.in-Greater.ensures.second (λ is. cc)) (sym (c.in-Greater.ensures.order files))
    (subst (λ (rows : List SegmentRow). Grows files c.segments.self c.copy_segment-in-Greater.new.self (row_segment files second.pieces (slice_index_or rows at none) ∷ [])) c.as_slice-in-Greater.ensures
    c.in_ok-copy_segment-in-Greater.ensures)

pub segments-preserved : goal.segments-preserved
segments-preserved c =
    let files = c.args.parts.now in
    let first = c.args.first.now in
    let second = c.args.second.now in
    let own = c.segments.own.from in
    let other = c.segments.other.from in
    both_move files first second c.args.own c.args.other c.args.self.now c.segments.own c.segments.other c.segments.self c.join_segments.new.self c.segments.invariant none
    (c.in-Equal.ensures.first (λ is. cc)) (c.in-Equal.ensures.second (λ is. cc)) (sym (c.in-Equal.ensures.order files))
    (subst (λ (rows : List SegmentRow). Grows files c.segments.self c.join_segments.new.self
    (joined_segment (row_segment files first.pieces (slice_index_or first.segments own none)) (row_segment files second.pieces (slice_index_or rows other none)) ∷ [])) c.as_slice-in-Equal-2.ensures
    (subst (λ (rows : List SegmentRow). Grows files c.segments.self c.join_segments.new.self
    (joined_segment (row_segment files first.pieces (slice_index_or rows own none)) (row_segment files second.pieces (slice_index_or c.as_slice-in-Equal-2.result.now other none)) ∷ [])) c.as_slice-in-Equal.ensures
    c.in_ok-join_segments-in-Equal.ensures))

pub returns : goal.returns
returns c =
    ends c.args.parts.now c.args.first.now c.args.second.now c.args.own c.args.other c.args.self.now c.segments.own c.segments.other c.segments.self c.segments.invariant c.if-own.false c.if-other.false
