use Rattle.std.proofs.Common.{◌-◌, ◌+◌, ◌≤◌, length}
use Rattle.shard_search.proofs.Joins.{Joining}
use Rattle.shard_search.specs.Private.Tables.{IsTable, told_terms}
use Rattle.shard_search.proofs.joining.merge_tables.Given as goal

abbrev pub invariant-terms : goal.invariant-terms
invariant-terms l = record {
  joining : Joining (told_terms l.parts l.first) (told_terms l.parts l.second) l.i l.j (told_terms l.parts l.table);
  stands : IsTable l.parts l.table;
  first : l.i ≤ length l.first.terms;
  second : l.j ≤ length l.second.terms;
}

abbrev pub decreases-terms : goal.decreases-terms
decreases-terms l = (length l.first.terms - l.i) + (length l.second.terms - l.j)
