-- The sessions before the last one keep their chains.
use Rattle.session_desk.proofs.Seating.{front_used}
use Rattle.session_desk.proofs.table.Table.close_all.Goals as goal

pub loop-session-preserved : goal.loop-session-preserved
loop-session-preserved c =
    front_used c.loop-session.pool c.close.new.pool c.loop-session.sessions.items c.pop.new.self.items c.in-Some.session c.in-Some.ensures.items c.close.ensures.others c.loop-session.invariant
