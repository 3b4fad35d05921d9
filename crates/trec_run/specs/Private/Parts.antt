-- The parts of a line.
use Rattle.std.specs.Prelude.{ℕ, List, [], ◌∷◌}

-- a part is a column where it has bytes
abbrev pub and_column : List ℕ → List (List ℕ) → List (List ℕ)
and_column [] columns = columns
and_column (b ∷ bytes) columns = (b ∷ bytes) ∷ columns
