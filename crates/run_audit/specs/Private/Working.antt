-- The memory that is kept from query to query.
use Rattle.std.specs.Prelude.{ℕ, ◌≡◌, ◌<◌, ◌^◌, length}
use Rattle.run_audit.specs.declared.workspace.Workspace.{Workspace}

-- there is room for the scores and the hits of an index of so many documents
pub record IsRoomFor (docs : ℕ) (work : Workspace) : Type 0 where
  pub few : docs < 2 ^ 32
  pub scores : length work.scores.items ≡ docs
  pub hits : length work.hits.items ≡ docs
