use Rattle.std.proofs.Common.{◌≡◌, map, take}
use Rattle.shard_search.specs.Parts.{base_of, index_at}
use Rattle.index_model.specs.Unions.{raised_term}
use Rattle.shard_search.specs.Private.Tables.{IsTable, told_terms}
use Rattle.shard_search.proofs.building.part_table.Given as goal

abbrev pub invariant-terms : goal.invariant-terms
invariant-terms l = record {
  stands : IsTable l.parts l.table;
  terms : told_terms l.parts l.table ≡ map (raised_term (base_of l.parts l.part)) (take l.term (index_at l.parts l.part).terms);
}
