-- The sessions of a desk as plain data. This project's.
use Rattle.std.specs.Prelude.{ℕ, ◌-◌, Bool, not, List, [], map, filter, sum_by, bytes_eq, Option, if◌then◌else◌}
use Rattle.std.specs.List.{find}
use Rattle.jass_base.specs.declared.answer.Budget.{Budget}
use Rattle.ranking_model.specs.Plan.{granted_with}
use Rattle.ranking_model.specs.Search.{QueryData}
use Rattle.index_model.specs.Index.{IndexData}
use Rattle.session_engine.specs.Plans.{need_of}

-- an open session: its query, whose id is the session's name, how many documents are asked for, and the sum of its grants
pub record OpenSession : Type 0 where
  pub query : QueryData
  pub k : ℕ
  pub granted : ℕ

-- the open sessions by opening, and the number of frames that they share
pub record DeskState : Type 0 where
  pub sessions : List OpenSession
  pub frames : ℕ

-- a desk over a source of segments
pub record DeskView (S : Type 0) : Type 0 where
  pub source : S
  pub state : DeskState

-- nothing is open
abbrev pub new_state : ℕ → DeskState
new_state frames = record { sessions = []; frames = frames }

abbrev pub is_named : List ℕ → OpenSession → Bool
is_named name session = bytes_eq session.query.id name

-- the session of a name, where one is open
abbrev pub session_named : List ℕ → DeskState → Option OpenSession
session_named name state = find (is_named name) state.sessions

-- the frames that sessions need at the most, and those that no open session may need
abbrev pub needs : IndexData → List OpenSession → ℕ
needs index sessions = sum_by (λ (e : OpenSession). need_of index e.query.terms) sessions

abbrev pub spare_frames : IndexData → DeskState → ℕ
spare_frames index state = state.frames - needs index state.sessions

-- a session to which a budget more is granted
abbrev pub granted_more : Budget → OpenSession → OpenSession
granted_more budget session = record session { granted = granted_with session.granted budget }

-- the sessions with that of a name changed, and without it
abbrev pub with_named : List ℕ → (OpenSession → OpenSession) → List OpenSession → List OpenSession
with_named name change sessions = map (λ (e : OpenSession). if is_named name e then change e else e) sessions

abbrev pub without_named : List ℕ → List OpenSession → List OpenSession
without_named name sessions = filter (λ (e : OpenSession). not (is_named name e)) sessions
