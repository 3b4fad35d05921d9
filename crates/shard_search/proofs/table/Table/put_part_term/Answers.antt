use Rattle.std.proofs.Common.{map}
use Rattle.index_model.specs.Querying.{segments_at}
use Rattle.shard_search.proofs.Growing.{term_grows}
use Rattle.shard_search.specs.Parts.{base_of, index_at}
use Rattle.index_model.specs.Unions.{raised_segment}
use Rattle.shard_search.proofs.table.Table.put_part_term.Goals as goal

pub returns : goal.returns
returns c =
    let files = c.args.parts.now in
    term_grows files c.args.self.now c.put_part_segments.new.self
    (map (raised_segment (base_of files c.args.part)) (segments_at (index_at files c.args.part).terms c.args.term))
    c.in_ok-put_part_segments.ensures c.args.part c.args.term c.requires.part c.requires.term
    c.put_term.new.self c.len-from.result c.len-from.ensures c.put_term.ensures.pieces c.put_term.ensures.segments c.in_ok-put_term.ensures.terms
