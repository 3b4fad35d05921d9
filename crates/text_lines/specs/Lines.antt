-- The lines of a text. Lines end by LF, as in POSIX; the CR of a line end CR LF is no part of the line. This project's.
use Rattle.std.specs.Prelude.{ℕ, ◌+◌, ◌≤◌, ◌==◌, List, [], ◌∷◌, map}
use Rattle.std.specs.List.{slice_split}
use Rattle.std.specs.Str.Lines.{strip_carriage_return}
use Rattle.text_lines.specs.declared.lines.Line.{Line}

-- what follows the last line feed is a line where it has bytes
abbrev pub last_line : List ℕ → List (List ℕ)
last_line [] = []
last_line (b ∷ bytes) = (b ∷ bytes) ∷ []

-- the parts between line feeds as lines
abbrev pub lines_of_parts : List (List ℕ) → List (List ℕ)
lines_of_parts [] = []
lines_of_parts (rest ∷ []) = last_line rest
lines_of_parts (line ∷ next ∷ parts) = line ∷ lines_of_parts (next ∷ parts)

-- the lines of a text, each without one CR at its end
unfoldable pub lines_of : List ℕ → List (List ℕ)
lines_of text = map strip_carriage_return (lines_of_parts (slice_split (λ b. b == 10) text))

-- a line and its number
pub record LineData : Type 0 where
  pub number : ℕ
  pub bytes : List ℕ

-- lines with their numbers, the first of which is given
abbrev pub numbered_from : ℕ → List (List ℕ) → List LineData
numbered_from number [] = []
numbered_from number (line ∷ lines) = record { number = number; bytes = line } ∷ numbered_from (number + 1) lines

-- a line as it is handed out
abbrev pub line_data : Line → LineData
line_data line = record { number = line.number; bytes = line.bytes.now }

-- a line has a number from 1 to a limit
pub record HasNumberUpTo (limit : ℕ) (line : LineData) : Type 0 where
  pub counted : 1 ≤ line.number
  pub within : line.number ≤ limit
