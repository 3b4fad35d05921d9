use Rattle.std.proofs.Common.{List, slice_index_or, nat_cmp, ap₂, sym, ◌∙◌}
use Rattle.shard_search.proofs.Spans.{both_next, first_next, second_next}
use Rattle.shard_search.specs.declared.rows.SegmentRow.{SegmentRow}
use Rattle.shard_search.proofs.merging.next_segment.Goals as goal

abbrev none : SegmentRow
none = record { impact = 0; count = 0; from = 0; to = 0 }

pub returns-then-own-clause-order : goal.returns-then-own-clause-order
returns-then-own-clause-order c = λ files. sym (second_next files c.args.first.now c.args.second.now c.args.own c.args.other c.if-own.true)

pub returns-then-other-clause-order : goal.returns-then-other-clause-order
returns-then-other-clause-order c = λ files. sym (first_next files c.args.first.now c.args.second.now c.args.own c.args.other none c.requires.own c.if-own.false c.if-other.true)

pub returns-clause-order : goal.returns-clause-order
returns-clause-order c = λ files.
    c.cmp.ensures
    ∙ ap₂ (λ (ys xs : List SegmentRow). nat_cmp (slice_index_or ys c.args.other.from none).impact (slice_index_or xs c.args.own.from none).impact) c.as_slice-2.ensures c.as_slice.ensures
    ∙ sym (both_next files c.args.first.now c.args.second.now c.args.own c.args.other none c.requires.own c.if-own.false c.requires.other c.if-other.false)
