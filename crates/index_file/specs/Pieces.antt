-- A piece of a content.
use Rattle.std.specs.Prelude.{ℕ, ◌≡◌, ◌≤◌, ◌+◌, ◌⊎◌, List, length}
use Rattle.whole_files.specs.Windows.{AreFrom}

-- the bytes are those of a content from a place on, and they are so many, or all to its end
pub record IsPiece (content : List ℕ) (at count : ℕ) (bytes : List ℕ) : Type 0 where
  pub from : AreFrom content at bytes
  pub within : at + length bytes ≤ length content
  pub enough : (count ≤ length bytes) ⊎ (at + length bytes ≡ length content)
