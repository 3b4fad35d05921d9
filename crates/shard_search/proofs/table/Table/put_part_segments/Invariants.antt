use Rattle.std.proofs.Common.{map, take}
use Rattle.index_model.specs.Querying.{segments_at}
use Rattle.shard_search.specs.Parts.{base_of, index_at}
use Rattle.index_model.specs.Unions.{raised_segment}
use Rattle.shard_search.specs.Private.Tables.{Grows}
use Rattle.shard_search.proofs.table.Table.put_part_segments.Given as goal

abbrev pub invariant-segments : goal.invariant-segments
invariant-segments l = Grows l.parts l.fn.self l.self
    (map (raised_segment (base_of l.parts l.part)) (take l.segment (segments_at (index_at l.parts l.part).terms l.term)))
