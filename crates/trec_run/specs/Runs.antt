-- A run as it is read: TREC's six columns, divided by blanks. What is refused, and in which order, is this project's.
use Rattle.std.specs.Prelude.{ℕ, ◌≡◌, ⊤, Bool, true, false, ◌||◌, ◌==◌, List, [], ◌∷◌, filter, codes, nat_eq, Option, Some, None, Result, Ok, Err, if◌then◌else◌}
use Rattle.std.specs.List.{slice_split}
use Rattle.std.specs.Str.{is_utf8}
use Rattle.std.specs.Cmp.Lexicographic.{pointwise}
use Rattle.jass_base.specs.Decimal.{decimal_of}
use Rattle.text_lines.specs.Lines.{LineData, lines_of, numbered_from}
use Rattle.trec_run.specs.declared.run_line.RunLine.{RunLine}
use Rattle.trec_run.specs.declared.run_line.RunWhy.{RunWhy}
use Rattle.trec_run.specs.declared.run_line.RunWhy.TheVariants.{Columns, Number}
use Rattle.trec_run.specs.declared.run_line.RunFault.{RunFault}
use Rattle.trec_run.specs.declared.run_line.RunFault.TheVariants.{Refused}

-- the numbers of the refusals
abbrev pub number_of : RunWhy → ℕ
number_of Columns = 80
number_of Number = 81

abbrev pub is_blank : ℕ → Bool
is_blank b = b == 32 || b == 9

abbrev pub has_bytes : List ℕ → Bool
has_bytes [] = false
has_bytes (b ∷ bytes) = true

-- what stands between spaces and tabs, of which many part as one does
unfoldable pub columns_of : List ℕ → List (List ℕ)
columns_of line = filter has_bytes (slice_split is_blank line)

-- a line whose columns are these, where its rank and its score are numbers
abbrev pub with_numbers : List ℕ → List ℕ → Option ℕ → Option ℕ → List ℕ → Result RunLine RunWhy
with_numbers id name (Some rank) (Some score) tag = Ok (record { id = id; name = name; rank = rank; score = score; tag = tag })
with_numbers id name (Some rank) None tag = Err Number
with_numbers id name None score tag = Err Number

-- six columns, of which the second is Q0
abbrev pub read_columns : List (List ℕ) → Result RunLine RunWhy
read_columns (id ∷ mark ∷ name ∷ rank ∷ score ∷ tag ∷ []) = if pointwise nat_eq mark (codes "Q0") then with_numbers id name (decimal_of rank) (decimal_of score) tag else Err Columns
read_columns columns = Err Columns

-- what a line stands for, or why it is refused
unfoldable pub read_line : List ℕ → Result RunLine RunWhy
read_line line = if is_utf8 line then read_columns (columns_of line) else Err Columns

-- what is read next, unless there was a refusal
infixl 10 ◌>>=◌
abbrev pub ◌>>=◌ : {A B : Type 0} → Result A RunFault → (A → Result B RunFault) → Result B RunFault
(Ok x) >>= f = f x
(Err e) >>= f = Err e

-- a refusal stands at this line
abbrev pub at_line : ℕ → Result RunLine RunWhy → Result RunLine RunFault
at_line number (Ok line) = Ok line
at_line number (Err why) = Err (Refused number why)

-- what lines stand for, or the first refusal; a line without bytes is passed by
abbrev pub read_lines : List LineData → Result (List RunLine) RunFault
read_lines [] = Ok []
read_lines (line ∷ lines) = if has_bytes line.bytes then (at_line line.number (read_line line.bytes) >>= λ first. read_lines lines >>= λ rest. Ok (first ∷ rest)) else read_lines lines

-- what a text stands for as a run, or the first refusal with its line
abbrev pub run_of : List ℕ → Result (List RunLine) RunFault
run_of text = read_lines (numbered_from 1 (lines_of text))

-- a line of a run: UTF-8 of six columns, of which the second is Q0, and the fourth and the fifth are numbers
pub record IsRunLine (line : List ℕ) (run : RunLine) : Type 0 where
  pub text : is_utf8 line ≡ true
  pub rank : List ℕ
  pub score : List ℕ
  pub columns : columns_of line ≡ run.id ∷ codes "Q0" ∷ run.name ∷ rank ∷ score ∷ run.tag ∷ []
  pub ranked : decimal_of rank ≡ Some run.rank
  pub scored : decimal_of score ≡ Some run.score

-- each line of these, in their order
abbrev pub AreRunLines : List (List ℕ) → List RunLine → Type 0
AreRunLines [] [] = ⊤
AreRunLines [] (run ∷ runs) = ⊥
AreRunLines (line ∷ lines) [] = ⊥
AreRunLines (line ∷ lines) (run ∷ runs) = IsRunLine line run × AreRunLines lines runs

-- a run: the lines of a text that have bytes
abbrev pub IsRun : List ℕ → List RunLine → Type 0
IsRun text runs = AreRunLines (filter has_bytes (lines_of text)) runs
