-- No session before this place has the name.
use Rattle.shared_lemmas.proofs.Common.{◌≢◌, take, AllByRecursion}
use Rattle.session_engine.specs.declared.session.Session.{Session}
use Rattle.session_desk.specs.Private.Standing.{name_of}
use Rattle.session_desk.proofs.table.Table.place_of.Given as goal

abbrev pub invariant-loop-place : goal.invariant-loop-place
invariant-loop-place l = AllByRecursion (λ (s : Session). name_of s ≢ l.name) (take l.place l.self.sessions.items)
