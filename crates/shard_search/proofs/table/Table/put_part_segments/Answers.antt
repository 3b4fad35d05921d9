use Rattle.shard_search.proofs.table.Table.put_part_segments.Goals as goal

pub put_part_segment-requires-clause-stands : goal.put_part_segment-requires-clause-stands
put_part_segment-requires-clause-stands c = c.segments.invariant.stands
