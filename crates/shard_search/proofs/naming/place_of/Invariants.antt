use Rattle.std.proofs.Common.{◌≡◌, ◌<◌, drop, length, slice_get}
use Rattle.shard_search.specs.Sums.{indexes_of}
use Rattle.index_model.specs.Unions.{union_names}
use Rattle.shard_search.proofs.naming.place_of.Given as goal

abbrev pub invariant-parts : goal.invariant-parts
invariant-parts l = record {
  inside : l.rest < length (union_names (drop l.i (indexes_of l.parts)));
  same : slice_get (union_names (indexes_of l.parts)) l.doc ≡ slice_get (union_names (drop l.i (indexes_of l.parts))) l.rest;
}
