-- The lines that a desk answers. Their words are the runs of bytes between spaces and tabs. This project's.
use Rattle.std.specs.Prelude.{ℕ, Bool, true, false, not, ◌==◌, ◌&&◌, ◌||◌, List, [], ◌∷◌, length, codes, bytes_eq, nat_lt, nat_le, Option, Some, None, if◌then◌else◌}
use Rattle.std.specs.Char.{is_ascii_alphanumeric}
use Rattle.std.specs.List.{list_all}
use Rattle.std.specs.Option.{option_and_then, option_map}
use Rattle.std.specs.Str.{is_utf8}
use Rattle.jass_base.specs.Decimal.{decimal_of}
use Rattle.jass_base.specs.declared.answer.Budget.{Budget}
use Rattle.jass_base.specs.declared.answer.Budget.TheVariants.{Postings, All}
use Rattle.jass_base.specs.declared.limits.TheConstants.{LONGEST_LINE, MOST_HITS}
use Rattle.query_reader.specs.Texts.{blank_runs}
use Rattle.session_desk.specs.declared.desk_limits.TheConstants.{LONGEST_SESSION_NAME}

-- what a line asks for; `open` has the words behind its number of documents
pub data DeskCommand : Type 0 where
  Open : List ℕ → ℕ → List (List ℕ) → DeskCommand
  Grant : List ℕ → Budget → DeskCommand
  Top : List ℕ → DeskCommand
  Why : List ℕ → DeskCommand
  Close : List ℕ → DeskCommand
  End : DeskCommand

-- ---- words

-- a letter or digit of ASCII, `-`, `_` or `.`
abbrev pub is_name_byte : ℕ → Bool
is_name_byte b = is_ascii_alphanumeric b || b == 45 || b == 95 || b == 46

-- the name of a session: 1 to 32 of these
unfoldable pub is_name : List ℕ → Bool
is_name word = nat_le 1 (length word) && nat_le (length word) LONGEST_SESSION_NAME && list_all is_name_byte word

-- how many documents are asked for: 1 to 100,000
abbrev pub k_in_range : ℕ → Option ℕ
k_in_range n = if nat_le 1 n && nat_le n MOST_HITS then Some n else None

unfoldable pub k_of : List ℕ → Option ℕ
k_of word = option_and_then k_in_range (decimal_of word)

-- a budget: a decimal, or `all`
unfoldable pub budget_of : List ℕ → Option Budget
budget_of word = if bytes_eq word (codes "all") then Some All else option_map Postings (decimal_of word)

-- a command about a session, where the word is a name
abbrev pub about : List ℕ → Option DeskCommand → Option DeskCommand
about name command = if is_name name then command else None

-- ---- the six forms

-- `open NAME K MENTION..`
abbrev pub open_of : List (List ℕ) → Option DeskCommand
open_of (name ∷ k ∷ words) = about name (option_map (λ n. Open name n words) (k_of k))
open_of (name ∷ []) = None
open_of [] = None

-- `grant NAME BUDGET`
abbrev pub grant_of : List (List ℕ) → Option DeskCommand
grant_of (name ∷ budget ∷ []) = about name (option_map (Grant name) (budget_of budget))
grant_of (name ∷ budget ∷ more ∷ words) = None
grant_of (name ∷ []) = None
grant_of [] = None

-- `top NAME`, `why NAME` and `close NAME`: one name, and nothing behind it
abbrev pub only_name : List (List ℕ) → Option (List ℕ)
only_name (name ∷ []) = if is_name name then Some name else None
only_name (name ∷ more ∷ words) = None
only_name [] = None

-- `end`
abbrev pub end_of : List (List ℕ) → Option DeskCommand
end_of [] = Some End
end_of (word ∷ words) = None

-- the command of a first word and those behind it
unfoldable pub command_of : List ℕ → List (List ℕ) → Option DeskCommand
command_of verb words =
    if bytes_eq verb (codes "open") then open_of words
    else (if bytes_eq verb (codes "grant") then grant_of words
    else (if bytes_eq verb (codes "top") then option_map Top (only_name words)
    else (if bytes_eq verb (codes "why") then option_map Why (only_name words)
    else (if bytes_eq verb (codes "close") then option_map Close (only_name words)
    else (if bytes_eq verb (codes "end") then end_of words
    else None)))))

abbrev pub command_in : List (List ℕ) → Option DeskCommand
command_in [] = None
command_in (verb ∷ words) = command_of verb words

-- the command of a line without its end: at most 1,048,576 bytes of UTF-8 in one of the six forms
unfoldable pub read_desk_line : List ℕ → Option DeskCommand
read_desk_line line = if nat_lt LONGEST_LINE (length line) then None else (if not (is_utf8 line) then None else command_in (blank_runs line))

-- ---- what lines are

abbrev pub is_end_command : Option DeskCommand → Bool
is_end_command (Some End) = true
is_end_command (Some other) = false
is_end_command None = false

-- the line is `end`
unfoldable pub is_end : List ℕ → Bool
is_end line = is_end_command (read_desk_line line)
