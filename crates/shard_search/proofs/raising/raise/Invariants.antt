use Rattle.std.proofs.Common.{◌≡◌, ◌+◌, ◌≤◌, ℕ, map, take, slice_index, length}
use Rattle.shard_search.proofs.raising.raise.Given as goal

abbrev pub invariant-docs : goal.invariant-docs
invariant-docs l = record {
  size : length l.block ≡ 128;
  raised : take l.i l.block ≡ map (λ doc. l.base + doc) (take l.i l.fn.block);
  left : (k : ℕ) → l.i ≤ k → slice_index l.block k ≡ slice_index l.fn.block k;
}
