-- The runs of a text, as slices of it.
use Rattle.std.specs.Prelude.{ℕ, ◌≡◌, ◌<◌, Bool, false, ⊤, List, [], ◌∷◌, length, Option, Some, None}
use Rattle.std.specs.Borrow.{Bor}
use Rattle.query_reader.specs.Texts.{blank_runs}

-- a text doesn't begin with an item that passes
abbrev pub BeginsWithout : (ℕ → Bool) → List ℕ → Type 0
BeginsWithout p [] = ⊤
BeginsWithout p (x ∷ xs) = p x ≡ false

-- the first run of a text, and what stands behind it
abbrev pub FindsRun : List ℕ → Option (Bor (List ℕ) × Bor (List ℕ)) → Type 0
FindsRun text None = blank_runs text ≡ []
FindsRun text (Some found) = (blank_runs text ≡ found.0.now ∷ blank_runs found.1.now) × (length found.1.now < length text)
