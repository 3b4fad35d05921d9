use Rattle.std.proofs.Common.{◌≡◌}
use Rattle.frame_pool.specs.ChainView.{IsTaken}
use Rattle.base_tests.proofs.frames.fill.Given as goal

abbrev pub invariant-loop-slot : goal.invariant-loop-slot
invariant-loop-slot l = record { chains : l.pool.chains ≡ l.fn.pool.chains; taken : IsTaken l.pool l.frame.number }
