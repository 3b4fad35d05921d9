use Rattle.std.proofs.Common.{All, take}
use Rattle.index_layout.specs.View.{IsFileView}
use Rattle.shard_search.proofs.shards.are_checked.Given as goal

abbrev pub invariant-parts : goal.invariant-parts
invariant-parts l = All IsFileView (take l.i l.parts)
