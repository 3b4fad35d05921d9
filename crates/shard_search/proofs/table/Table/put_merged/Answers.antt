use Rattle.shard_search.proofs.Growing.{term_grows}
use Rattle.index_model.specs.Merging.{merged_segments}
use Rattle.shard_search.specs.Private.Tables.{span_segments}
use Rattle.shard_search.proofs.table.Table.put_merged.Goals as goal

pub returns : goal.returns
returns c =
    let files = c.args.parts.now in
    let row = c.args.row in
    term_grows files c.args.self.now c.merge_segments.new.self
    (merged_segments (span_segments files c.args.first.now row.span) (span_segments files c.args.second.now c.args.other))
    c.in_ok-merge_segments.ensures row.part row.term c.requires.row.part c.requires.row.term
    c.put_term.new.self c.len-from.result c.len-from.ensures c.put_term.ensures.pieces c.put_term.ensures.segments c.in_ok-put_term.ensures.terms
