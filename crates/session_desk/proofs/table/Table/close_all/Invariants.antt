-- The sessions that are left have their chains.
use Rattle.std.proofs.Common.{length}
use Rattle.session_desk.proofs.Seating.{HaveChains}
use Rattle.session_desk.proofs.table.Table.close_all.Given as goal

abbrev pub invariant-loop-session : goal.invariant-loop-session
invariant-loop-session l = HaveChains l.pool l.sessions.items

abbrev pub decreases-loop-session : goal.decreases-loop-session
decreases-loop-session l = length l.sessions.items
