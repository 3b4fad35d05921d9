-- The places of the sessions in a table.
use Rattle.std.specs.Prelude.{ℕ, ◌≡◌, ◌≢◌, List, ◌∷◌, ◌++◌, length, Option, Some, None}
use Rattle.std.specs.List.{AllByRecursion}
use Rattle.session_engine.specs.declared.session.Session.{Session}
use Rattle.session_desk.specs.Private.Standing.{name_of}

-- a session of this name stands at this place
pub record IsAt (sessions : List Session) (name : List ℕ) (place : ℕ) : Type 0 where
  pub front : List Session
  pub session : Session
  pub back : List Session
  pub parts : sessions ≡ front ++ session ∷ back
  pub behind : length front ≡ place
  pub named : name_of session ≡ name

-- the place of a session of this name, where there is one
abbrev pub FindsName : List Session → List ℕ → Option ℕ → Type 0
FindsName sessions name (Some place) = IsAt sessions name place
FindsName sessions name None = AllByRecursion (λ (s : Session). name_of s ≢ name) sessions
