-- The session at the place of its name goes.
use Rattle.std.proofs.Common.{◌∙◌, is_some, length, ap, refl, subst, sym, arith}
use Rattle.session_desk.specs.Standing.{sessions_data}
use Rattle.session_desk.specs.Private.Standing.{SessionsStand}
use Rattle.session_desk.proofs.Granting.{found_at, gone_shows, gone_stand, stands_at, state_shown}
use Rattle.session_desk.proofs.Showing.{found_nowhere, stays_without}
use Rattle.session_desk.proofs.table.Table.close.Goals as goal

pub returns-in-Some-clause-stands : goal.returns-in-Some-clause-stands
returns-in-Some-clause-stands c index stood =
    let items = c.args.self.now.sessions.items in let here = c.remove-session.result in let pool = c.args.self.now.pool in
    let stands = stands_at items c.args.name.now c.in-Some.place c.in-Some.ensures index pool here c.remove-session.ensures.value stood.sessions in
    let chain = c.a_standing_session_has_its_chain.ensures in
    record {
      sessions = subst (SessionsStand index c.close.new.pool) (sym c.remove-session.ensures.items)
          (gone_stand items c.args.name.now c.in-Some.place c.in-Some.ensures c.calls_on_other_chains_leave_sessions.ensures.all index pool c.close.new.pool here c.remove-session.ensures.value stood.sessions
          (chain.in_use here index pool stands) (chain.promise here index pool stands) c.close.ensures.frames c.close.ensures.chains c.close.ensures.others c.close.ensures.spare);
      room = omega (arith, c.remove-session.ensures.capacity, stood.room);
    }

pub returns-in-Some-clause-open : goal.returns-in-Some-clause-open
returns-in-Some-clause-open c =
    sym (ap is_some (found_at c.args.self.now.sessions.items c.args.name.now c.in-Some.place c.in-Some.ensures c.remove-session.result c.remove-session.ensures.value c.requires.stands.1.sessions.differ))

pub returns-in-Some-clause-after : goal.returns-in-Some-clause-after
returns-in-Some-clause-after c = state_shown _ _ _ _
    (ap sessions_data c.remove-session.ensures.items ∙ gone_shows c.args.self.now.sessions.items c.args.name.now c.in-Some.place c.in-Some.ensures c.requires.stands.1.sessions.differ)
    (ap length c.close.ensures.frames)

pub returns-in-None-clause-open : goal.returns-in-None-clause-open
returns-in-None-clause-open c = sym (ap is_some (found_nowhere c.args.name.now c.args.self.now.sessions.items c.in-None.ensures))

pub returns-in-None-clause-after : goal.returns-in-None-clause-after
returns-in-None-clause-after c = state_shown _ _ _ _ (sym (stays_without c.args.name.now c.args.self.now.sessions.items c.in-None.ensures)) refl
