use Rattle.std.proofs.Common.{◌≡◌, ◌<◌, ℕ, length, slice_index, take, sum_by}
use Rattle.shard_search.specs.Parts.{base_of}
use Rattle.shard_search.specs.Sums.{file_docs}
use Rattle.shard_search.proofs.shards.bases_of.Given as goal

abbrev pub invariant-parts : goal.invariant-parts
invariant-parts l = record {
  docs : l.docs ≡ sum_by file_docs (take l.i l.parts);
  count : length l.bases ≡ l.i;
  each : (part : ℕ) → part < l.i → slice_index l.bases part ≡ base_of l.parts part;
}
