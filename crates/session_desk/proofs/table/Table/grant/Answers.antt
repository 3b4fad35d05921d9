-- The session at the place of its name is granted more.
use Rattle.shared_lemmas.proofs.Common.{◌≡◌, ◌+◌, ◌∙◌, Option, Some, ap, refl, sym, arith, option_map, option_map_or}
use Rattle.session_desk.proofs.Below.{Report, Query, report_of}
use Rattle.session_desk.specs.Replies.{newly_scored, session_report}
use Rattle.session_desk.specs.State.{OpenSession, granted_more}
use Rattle.session_desk.specs.Standing.{session_data}
use Rattle.session_desk.specs.Private.Reporting.{told_of}
use Rattle.session_desk.proofs.Granting.{changed_shows, changed_stand, session_granted, found_at, report_shown, stands_at, state_shown, steps_shown, told_shown}
use Rattle.session_desk.proofs.Showing.{found_nowhere, stays_with}
use Rattle.session_desk.proofs.table.Table.grant.Goals as goal

pub returns-in_err-place-clause-told : goal.returns-in_err-place-clause-told
returns-in_err-place-clause-told g c = c.from_residual.ensures
    ∙ ap (option_map (λ (session : OpenSession). told_of (g.S.Source.index c.args.source.now) (granted_more c.args.budget session))) (sym (found_nowhere c.args.name.now c.args.self.now.sessions.items c.in_err-place.ensures))

pub returns-in_err-place-clause-after : goal.returns-in_err-place-clause-after
returns-in_err-place-clause-after g c =
    state_shown _ _ _ _ (sym (stays_with c.args.name.now (granted_more c.args.budget) c.args.self.now.sessions.items c.in_err-place.ensures)) refl

pub returns-in_err-place-clause-steps : goal.returns-in_err-place-clause-steps
returns-in_err-place-clause-steps g c =
    omega (arith, ap (λ (o : Option OpenSession). option_map_or (newly_scored (g.S.Source.index c.args.source.now) c.args.budget) o 0) (found_nowhere c.args.name.now c.args.self.now.sessions.items c.in_err-place.ensures))

pub returns-clause-stands : goal.returns-clause-stands
returns-clause-stands g c = record {
  sessions = changed_stand c.args.self.now.sessions.items c.args.name.now c.in_ok-place.place c.in_ok-place.ensures c.calls_on_other_chains_leave_sessions.ensures.all (g.S.Source.index c.args.source.now) c.args.self.now.pool c.grant-report.new.pool
      c.index_mut-session.result.now c.grant-report.new.self c.index_mut-session.ensures.value c.requires.stands.sessions c.grant-report.ensures.leaves c.grant-report.ensures.same c.grant-report.ensures.stands;
  room = c.requires.stands.room;
}

pub returns-clause-told : goal.returns-clause-told
returns-clause-told g c =
    let here = c.index_mut-session.result.now in let there = c.grant-report.new.self in let index = (g.S.Source.index c.args.source.now) in
    let granted : session_data there ≡ granted_more c.args.budget (session_data here) = session_granted here there c.args.budget c.grant-report.ensures.same c.grant-report.ensures.granted in
    let found = found_at c.args.self.now.sessions.items c.args.name.now c.in_ok-place.place c.in_ok-place.ensures here c.index_mut-session.ensures.value c.requires.stands.sessions.differ in
    let told = told_shown index (session_data there) c.grant-report.result c.query.result.now.unknown
    (c.grant-report.ensures.report ∙ report_shown there index c.grant-report.new.pool c.grant-report.ensures.stands) (ap (λ (q : Query). q.unknown) c.query.ensures) in
    ap (λ t. Some t) (told ∙ ap (told_of index) granted) ∙ ap (option_map (λ (session : OpenSession). told_of index (granted_more c.args.budget session))) (sym found)

pub returns-clause-after : goal.returns-clause-after
returns-clause-after g c =
    let here = c.index_mut-session.result.now in let there = c.grant-report.new.self in
    let granted : session_data there ≡ granted_more c.args.budget (session_data here) = session_granted here there c.args.budget c.grant-report.ensures.same c.grant-report.ensures.granted in
    state_shown _ _ _ _
    (changed_shows c.args.self.now.sessions.items c.args.name.now c.in_ok-place.place c.in_ok-place.ensures (granted_more c.args.budget) here there c.index_mut-session.ensures.value c.requires.stands.sessions.differ granted)
    c.grant-report.ensures.leaves.frames

pub returns-clause-steps : goal.returns-clause-steps
returns-clause-steps g c =
    let here = c.index_mut-session.result.now in let there = c.grant-report.new.self in let index = (g.S.Source.index c.args.source.now) in
    let items = c.args.self.now.sessions.items in
    let granted : session_data there ≡ granted_more c.args.budget (session_data here) = session_granted here there c.args.budget c.grant-report.ensures.same c.grant-report.ensures.granted in
    let found = found_at items c.args.name.now c.in_ok-place.place c.in_ok-place.ensures here c.index_mut-session.ensures.value c.requires.stands.sessions.differ in
    let before = report_shown here index c.args.self.now.pool (stands_at items c.args.name.now c.in_ok-place.place c.in_ok-place.ensures index c.args.self.now.pool here c.index_mut-session.ensures.value c.requires.stands.sessions) in
    let after = c.grant-report.ensures.report ∙ report_shown there index c.grant-report.new.pool c.grant-report.ensures.stands ∙ ap (session_report index) granted in
    steps_shown c.args.steps.now c.grant-report.new.steps (report_of here).postings c.grant-report.result.postings (session_report index (session_data here)) (session_report index (granted_more c.args.budget (session_data here)))
    (ap (λ (r : Report). r.postings) (sym before)) (ap (λ (r : Report). r.postings) (sym after)) c.grant-report.ensures.more c.grant-report.ensures.steps
    ∙ ap (λ (o : Option OpenSession). c.args.steps.now + option_map_or (newly_scored index c.args.budget) o 0) (sym found)
