use Rattle.std.proofs.Common.{◌≡◌, replicate}
use Rattle.frame_pool.proofs.store.zero_rows.Given as goal

abbrev pub invariant-loop : goal.invariant-loop
invariant-loop l = l.rows.items ≡ replicate l.counter (replicate 256 0)
