-- The room of the foremost hits.
use Rattle.std.specs.Prelude.{ℕ, ◌≡◌, ◌+◌, ◌<◌, ◌≤◌, length, vec_capacity}
use Rattle.certain_hits.specs.declared.foremost.Foremost.{Foremost}

-- there is room for one hit more, and for more than are asked for
pub record HasRoom (f : Foremost) : Type 0 where
  pub some : 1 ≤ f.count
  pub more : f.count < f.room
  pub within : f.room ≤ vec_capacity f.kept
  pub spare : f.room ≤ vec_capacity f.spare
  pub left : length f.kept.items < f.room

-- room for the first k hits and one more
pub record IsRoomFor (k : ℕ) (f : Foremost) : Type 0 where
  pub count : f.count ≡ k + 1
  pub room : HasRoom f
