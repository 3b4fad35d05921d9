-- The session at the place of its name.
use Rattle.shared_lemmas.proofs.Common.{◌∙◌, ap, sym, option_map}
use Rattle.session_desk.specs.Standing.{session_data}
use Rattle.session_desk.proofs.Granting.{found_at}
use Rattle.session_desk.proofs.Showing.{found_nowhere}
use Rattle.session_desk.proofs.table.Table.session.Goals as goal

pub returns-in_err-place-clause-session : goal.returns-in_err-place-clause-session
returns-in_err-place-clause-session c = ap (option_map (λ s. session_data s.now)) c.from_residual.ensures ∙ sym (found_nowhere c.args.name.now c.args.self.now.sessions.items c.in_err-place.ensures)

pub returns-clause-session : goal.returns-clause-session
returns-clause-session c = sym (found_at c.args.self.now.sessions.items c.args.name.now c.in_ok-place.place c.in_ok-place.ensures c.index.result.now c.index.ensures c.requires)
