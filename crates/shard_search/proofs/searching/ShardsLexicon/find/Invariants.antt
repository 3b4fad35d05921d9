use Rattle.std.proofs.Common.{◌-◌}
use Rattle.index_file.proofs.Halves.{Halves}
use Rattle.shard_search.specs.Union.{union_index}
use Rattle.shard_search.proofs.searching.ShardsLexicon.find.Given as goal

abbrev pub invariant-halves : goal.invariant-halves
invariant-halves l = Halves (union_index l.self).terms l.term l.from l.to

abbrev pub decreases-halves : goal.decreases-halves
decreases-halves l = l.to - l.from
