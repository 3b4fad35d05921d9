-- What a sink has behind a text that was put in part.
use Rattle.std.specs.Prelude.{ℕ, List, take, Option}
use Rattle.std.specs.Io.KnownBytes.{Appends}

-- a prefix of a text was put
abbrev pub AppendsPrefix : Option (List ℕ) → Option (List ℕ) → List ℕ → Type 0
AppendsPrefix old new text = (n : ℕ) × Appends old new (take n text)
