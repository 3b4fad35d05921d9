-- When the sessions in one pool stand over an index.
use Rattle.std.specs.Prelude.{ℕ, ◌≡◌, ◌≢◌, ◌≤◌, ◌+◌, ⊤, List, [], ◌∷◌, length, count_by, is_some, vec_capacity}
use Rattle.std.specs.List.{AllByRecursion}
use Rattle.index_model.specs.Index.{IndexData}
use Rattle.frame_pool.specs.Pool.{PoolView, spare_of}
use Rattle.session_engine.specs.Standing.{SessionStands, chain_of, query_of}
use Rattle.session_engine.specs.declared.session.Session.{Session}
use Rattle.session_desk.specs.declared.desk_limits.TheConstants.{MOST_SESSIONS}
use Rattle.session_desk.specs.declared.table.Table.{Table}
use Rattle.session_desk.specs.Standing.{sessions_data}
use Rattle.session_desk.specs.State.{needs}

abbrev pub name_of : Session → List ℕ
name_of s = (query_of s).id

-- two sessions have other names and other chains
pub record AreApart (first second : Session) : Type 0 where
  pub names : name_of second ≢ name_of first
  pub chains : chain_of second ≢ chain_of first

-- any two do
abbrev pub Differ : List Session → Type 0
Differ [] = ⊤
Differ (s ∷ sessions) = AllByRecursion (AreApart s) sessions × Differ sessions

-- the sessions stand in a pool of 64 chain numbers, and each frame that one may need is promised
pub record SessionsStand (index : IndexData) (pool : PoolView) (sessions : List Session) : Type 0 where
  pub each : AllByRecursion (λ (s : Session). SessionStands s index pool) sessions
  pub differ : Differ sessions
  pub few : length sessions ≤ MOST_SESSIONS
  pub numbers : length pool.chains ≡ MOST_SESSIONS
  pub in_use : count_by is_some pool.chains ≡ length sessions
  pub spare : spare_of pool + needs index (sessions_data sessions) ≡ length pool.frames

-- and there is room for 64
pub record TableStands (index : IndexData) (table : Table) : Type 0 where
  pub sessions : SessionsStand index table.pool table.sessions.items
  pub room : MOST_SESSIONS ≤ vec_capacity table.sessions
