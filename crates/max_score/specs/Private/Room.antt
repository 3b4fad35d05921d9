-- The room of candidates.
use Rattle.std.specs.Prelude.{◌<◌, ◌≤◌, length, vec_capacity}
use Rattle.max_score.specs.declared.candidates.Candidates.{Candidates}

-- there is room for one hit more, and for more than are asked for
pub record HasRoom (c : Candidates) : Type 0 where
  pub some : 1 ≤ c.k
  pub more : c.k < c.room
  pub within : c.room ≤ vec_capacity c.hits
  pub spare : c.room ≤ vec_capacity c.spare
  pub left : length c.hits.items < c.room
