-- Which documents of a term were met before, by a mark for each document.
use Rattle.std.specs.Prelude.{ℕ, ◌≡◌, ◌<◌, ◌≤◌, ◌==◌, ◌||◌, Bool, false, All, List, [], ◌∷◌, length, slice_index, slice_set}
use Rattle.index_layout.specs.Reading.{is_among}

-- a document has the mark now where it is one of the earlier ones; no mark is above it
pub record AreMarks (now : ℕ) (earlier marks : List ℕ) : Type 0 where
  pub met : (doc : ℕ) → doc < length marks → (slice_index marks doc == now) ≡ is_among earlier doc
  pub most : All (λ mark. mark ≤ now) marks

-- the marks when documents were marked in turn
abbrev pub marked : ℕ → List ℕ → List ℕ → List ℕ
marked now [] marks = marks
marked now (doc ∷ docs) marks = marked now docs (slice_set marks doc now)

-- whether a document has the mark when its turn comes
abbrev pub meets_marked : ℕ → List ℕ → List ℕ → Bool
meets_marked now [] marks = false
meets_marked now (doc ∷ docs) marks = (slice_index marks doc == now) || meets_marked now docs (slice_set marks doc now)
