-- The front of a content.
use Rattle.std.specs.Prelude.{ℕ, ◌≡◌, ◌≤◌, List, length, take}

-- the row is the front of a content
pub record IsFrontOf (row content : List ℕ) : Type 0 where
  pub front : row ≡ take (length row) content
  pub within : length row ≤ length content
