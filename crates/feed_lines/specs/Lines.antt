-- The lines of a text that end by LF, and those of an input of which a part was taken.
use Rattle.std.specs.Prelude.{ℕ, ◌≡◌, ◌≢◌, ◌<◌, ◌==◌, true, false, List, [], ◌∷◌, ◌++◌, length, map, take, drop, ◌+◌, All}
use Rattle.std.specs.List.{slice_split}
use Rattle.std.specs.Str.Lines.{strip_carriage_return}
use Rattle.text_lines.specs.Lines.{lines_of}
use Rattle.feed_lines.specs.Waiting.{Waiting, passed_to}

-- the parts that a line feed follows
abbrev pub ended_parts : List (List ℕ) → List (List ℕ)
ended_parts [] = []
ended_parts (rest ∷ []) = []
ended_parts (line ∷ next ∷ parts) = line ∷ ended_parts (next ∷ parts)

-- the lines of a text that end by LF, each without one CR at its end
unfoldable pub ended_lines : List ℕ → List (List ℕ)
ended_lines text = map strip_carriage_return (ended_parts (slice_split (λ b. b == 10) text))

-- of the bytes that were taken some lines were passed, and others are pending, whatever follows
pub record Passed (taken : List ℕ) (passed : List (List ℕ)) (pending : List ℕ) : Type 0 where
  pub lines : (more : List ℕ) → lines_of (taken ++ more) ≡ passed ++ lines_of (pending ++ more)
  pub ended : (more : List ℕ) → ended_lines (taken ++ more) ≡ passed ++ ended_lines (pending ++ more)

-- the bytes that wait are those that are pending, or the end of those where the line is too long; the others are of that line
pub record Holds (w : Waiting) (pending : List ℕ) : Type 0 where
  pub lost : List ℕ
  pub parts : pending ≡ lost ++ w.bytes
  pub free : All (λ b. b ≢ 10) lost
  pub whole : w.long ≡ false → lost ≡ []
  pub many : w.long ≡ true → 1048577 < length lost

-- the first line of those that are pending, and those behind it
pub record IsFirstLine (pending line rest : List ℕ) : Type 0 where
  pub parts : pending ≡ line ++ 10 ∷ rest
  pub free : All (λ b. b ≢ 10) line

-- a line that waits is passed: it is the first of those that are pending, and what waits behind it is what is then pending
pub record PassesLine (w : Waiting) (pending : List ℕ) (end : ℕ) : Type 0 where
  pub line : List ℕ
  pub first : IsFirstLine pending line (drop (end + 1) w.bytes)
  pub holds : Holds (passed_to end w) (drop (end + 1) w.bytes)
  pub whole : w.long ≡ false → line ≡ take end w.bytes
  pub many : w.long ≡ true → 1048577 < length line
