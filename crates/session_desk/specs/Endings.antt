-- What a line leaves by how it went: where memory was wanted nothing is written, and the sessions are as before.
use Rattle.std.specs.Prelude.{ℕ, Bool, false, List, [], Option, Some, None, Result, Ok, Err}
use Rattle.session_desk.specs.declared.went.Went.{Went}
use Rattle.session_desk.specs.declared.went.Went.TheVariants as wents
use Rattle.session_desk.specs.State.{DeskState}
use Rattle.session_desk.specs.Lines.{DeskCommand, Open, read_desk_line}
use Rattle.session_desk.specs.Replies.{has_room}

-- the text that is written, of the reply
abbrev pub text_where : {E : Type 0} → Result Went E → List ℕ → List ℕ
text_where (Ok wents.NoMemory) reply = []
text_where (Ok wents.On) reply = reply
text_where (Ok wents.End) reply = reply
text_where (Err fault) reply = reply

-- the state that is left, of those before and after the line
abbrev pub left_where : {E : Type 0} → Result Went E → DeskState → DeskState → DeskState
left_where (Ok wents.NoMemory) before after = before
left_where (Ok wents.On) before after = after
left_where (Ok wents.End) before after = after
left_where (Err fault) before after = after

-- the command takes memory: an `open` of a name that is free, where fewer than 64 sessions are open
abbrev pub may_take_memory : DeskState → Option DeskCommand → Bool
may_take_memory state (Some (Open name k words)) = has_room name state
may_take_memory state (Some other) = false
may_take_memory state None = false

-- the line does
unfoldable pub may_want_memory : DeskState → List ℕ → Bool
may_want_memory state line = may_take_memory state (read_desk_line line)
