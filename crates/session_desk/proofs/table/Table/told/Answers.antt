-- What is told of the session at the place of its name.
use Rattle.shared_lemmas.proofs.Common.{◌∙◌, Some, ap, sym, option_map}
use Rattle.jass_base.specs.declared.query.Query.{Query}
use Rattle.session_desk.specs.Standing.{session_data}
use Rattle.session_desk.specs.Private.Reporting.{told_of}
use Rattle.session_desk.proofs.Granting.{found_at, report_shown, stands_at, told_shown}
use Rattle.session_desk.proofs.Showing.{found_nowhere}
use Rattle.session_desk.proofs.table.Table.told.Goals as goal

pub returns-in_err-place : goal.returns-in_err-place
returns-in_err-place c index stands = c.from_residual.ensures ∙ ap (option_map (told_of index)) (sym (found_nowhere c.args.name.now c.args.self.now.sessions.items c.in_err-place.ensures))

pub returns : goal.returns
returns c index stands =
    let items = c.args.self.now.sessions.items in let here = c.index-session.result.now in let pool = c.args.self.now.pool in
    let found = found_at items c.args.name.now c.in_ok-place.place c.in_ok-place.ensures here c.index-session.ensures stands.sessions.differ in
    let stand = stands_at items c.args.name.now c.in_ok-place.place c.in_ok-place.ensures index pool here c.index-session.ensures stands.sessions in
    let told = told_shown index (session_data here) c.report.result c.query.result.now.unknown (c.report.ensures ∙ report_shown here index pool stand) (ap (λ (q : Query). q.unknown) c.query.ensures) in
    ap (λ t. Some t) told ∙ ap (option_map (told_of index)) (sym found)
