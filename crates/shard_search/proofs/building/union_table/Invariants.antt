use Rattle.std.proofs.Common.{◌≡◌, ◌≤◌, drop, length}
use Rattle.index_model.specs.Merging.{union_terms}
use Rattle.shard_search.specs.Parts.{base_of}
use Rattle.shard_search.specs.Sums.{indexes_of}
use Rattle.shard_search.specs.Private.Tables.{IsTable, told_terms}
use Rattle.shard_search.proofs.building.union_table.Given as goal

abbrev pub invariant-parts : goal.invariant-parts
invariant-parts l = record {
  part : l.part ≤ length l.parts;
  stands : IsTable l.parts l.table;
  terms : told_terms l.parts l.table ≡ union_terms (base_of l.parts l.part) (drop l.part (indexes_of l.parts));
}

abbrev pub decreases-parts : goal.decreases-parts
decreases-parts l = l.part
