-- What is told to one session of a desk, and what it would be told if no other session were there. This project's.
use Rattle.std.specs.Prelude.{ℕ, Bool, false, List, [], ◌∷◌, ◌++◌, bytes_eq, Option, Some, None, if◌then◌else◌}
use Rattle.std.specs.Option.{option_map_or}
use Rattle.jass_base.specs.declared.answer.Budget.{Budget}
use Rattle.index_model.specs.Index.{IndexData}
use Rattle.session_desk.specs.State.{DeskState, OpenSession}
use Rattle.session_desk.specs.Lines.{DeskCommand, Open, Grant, Top, Why, Close, End, is_end, read_desk_line}
use Rattle.session_desk.specs.Replies.{desk_after, desk_reply}

-- the session that a command names
abbrev pub name_in : DeskCommand → Option (List ℕ)
name_in (Open name k words) = Some name
name_in (Grant name budget) = Some name
name_in (Top name) = Some name
name_in (Why name) = Some name
name_in (Close name) = Some name
name_in End = None

abbrev pub command_names : List ℕ → Option DeskCommand → Bool
command_names name (Some command) = option_map_or (λ other. bytes_eq other name) (name_in command) false
command_names name None = false

abbrev pub command_closes : List ℕ → Option DeskCommand → Bool
command_closes name (Some (Close other)) = bytes_eq other name
command_closes name (Some other) = false
command_closes name None = false

-- the line names the session, and closes it
unfoldable pub does_name : List ℕ → List ℕ → Bool
does_name name line = command_names name (read_desk_line line)

unfoldable pub does_close : List ℕ → List ℕ → Bool
does_close name line = command_closes name (read_desk_line line)

-- the lines that name a session, up to the one that closes it, before the first line `end`
unfoldable pub own_lines : List ℕ → List (List ℕ) → List (List ℕ)
own_lines name [] = []
own_lines name (line ∷ lines) =
    if is_end line then []
    else (if does_close name line then line ∷ []
    else (if does_name name line then line ∷ own_lines name lines
    else own_lines name lines))

-- the replies that a desk gives to these lines, among whatever others
unfoldable pub own_replies : IndexData → List ℕ → DeskState → List (List ℕ) → List (List ℕ)
own_replies index name state [] = []
own_replies index name state (line ∷ lines) =
    if is_end line then []
    else (if does_close name line then desk_reply index state line ∷ []
    else (if does_name name line then desk_reply index state line ∷ own_replies index name (desk_after index state line) lines
    else own_replies index name (desk_after index state line) lines))

-- a desk at which this session is the only one
abbrev pub alone : ℕ → OpenSession → DeskState
alone frames session = record { sessions = session ∷ []; frames = frames }

-- the budgets that lines grant a session
abbrev pub budget_in : List ℕ → Option DeskCommand → List Budget
budget_in name (Some (Grant other budget)) = if bytes_eq other name then budget ∷ [] else []
budget_in name (Some other) = []
budget_in name None = []

unfoldable pub budgets_in : List ℕ → List (List ℕ) → List Budget
budgets_in name [] = []
budgets_in name (line ∷ lines) = budget_in name (read_desk_line line) ++ budgets_in name lines

-- the state after lines
unfoldable pub after_lines : IndexData → DeskState → List (List ℕ) → DeskState
after_lines index state [] = state
after_lines index state (line ∷ lines) = after_lines index (desk_after index state line) lines
