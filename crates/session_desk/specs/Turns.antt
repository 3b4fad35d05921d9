-- What a desk replies to many lines, up to and with the first line `end`. This project's.
use Rattle.std.specs.Prelude.{ℕ, ◌+◌, List, [], ◌∷◌, ◌++◌, filter, Option, Some, None, if◌then◌else◌}
use Rattle.std.specs.List.{concat}
use Rattle.index_model.specs.Index.{IndexData}
use Rattle.session_desk.specs.State.{DeskState, OpenSession, is_named, new_state}
use Rattle.session_desk.specs.Lines.{DeskCommand, Close, is_end, read_desk_line}
use Rattle.session_desk.specs.Replies.{desk_after, desk_reply, desk_steps}

-- the replies, one for each line that is answered
unfoldable pub replies_from : IndexData → DeskState → List (List ℕ) → List (List ℕ)
replies_from index state [] = []
replies_from index state (line ∷ lines) =
    desk_reply index state line ∷ (if is_end line then [] else replies_from index (desk_after index state line) lines)

-- the sessions that a line closes
abbrev pub ended_by : DeskState → Option DeskCommand → List OpenSession
ended_by state (Some (Close name)) = filter (is_named name) state.sessions
ended_by state (Some other) = []
ended_by state None = []

-- all sessions that are open or will be opened, each as it is in the end: those that lines close, and then the others
unfoldable pub sessions_from : IndexData → DeskState → List (List ℕ) → List OpenSession
sessions_from index state [] = state.sessions
sessions_from index state (line ∷ lines) =
    ended_by state (read_desk_line line)
    ++ (if is_end line then (desk_after index state line).sessions else sessions_from index (desk_after index state line) lines)

-- the postings that these lines score
unfoldable pub steps_from : IndexData → DeskState → List (List ℕ) → ℕ
steps_from index state [] = 0
steps_from index state (line ∷ lines) =
    desk_steps index state line + (if is_end line then 0 else steps_from index (desk_after index state line) lines)

-- the replies of a desk at which nothing is open, as one text, and the postings that it scores for them
unfoldable pub desk_replies : IndexData → ℕ → List (List ℕ) → List ℕ
desk_replies index frames lines = concat (replies_from index (new_state frames) lines)

unfoldable pub desk_postings : IndexData → ℕ → List (List ℕ) → ℕ
desk_postings index frames lines = steps_from index (new_state frames) lines
