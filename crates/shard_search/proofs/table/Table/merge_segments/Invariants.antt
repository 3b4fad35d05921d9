use Rattle.std.proofs.Common.{◌-◌, ◌+◌}
use Rattle.shard_search.proofs.Spans.{Merging}
use Rattle.shard_search.proofs.table.Table.merge_segments.Given as goal

abbrev pub invariant-segments : goal.invariant-segments
invariant-segments l = Merging l.parts l.first l.second l.fn.own l.fn.other l.fn.self l.own l.other l.self

abbrev pub decreases-segments : goal.decreases-segments
decreases-segments l = (l.own.to - l.own.from) + (l.other.to - l.other.from)
