-- What opening a session answers and leaves.
use Rattle.std.specs.Prelude.{ℕ, ◌≡◌, List, Result, Ok, Err}
use Rattle.index_model.specs.Index.{IndexData}
use Rattle.query_reader.specs.declared.refusal.QueryFault.{QueryFault}
use Rattle.query_reader.specs.declared.refusal.QueryFault.TheVariants as query_faults
use Rattle.session_desk.specs.declared.opening.Opened.{Opened}
use Rattle.session_desk.specs.declared.opening.SessionFault.{SessionFault}
use Rattle.session_desk.specs.declared.opening.SessionFault.TheVariants.{Refused, NoMemory}
use Rattle.session_desk.specs.declared.refusal.DeskRefusal.{DeskRefusal}
use Rattle.session_desk.specs.State.{DeskState, OpenSession}
use Rattle.session_desk.specs.Replies.{opened_line, opened_reply, query_refusal, with_opened}

-- the session joins the others, or is refused, or memory was wanted
abbrev pub Opens : IndexData → Result OpenSession DeskRefusal → List ℕ → DeskState → DeskState → Result Opened SessionFault → Type 0
Opens index found name old new (Ok opened) = (opened_reply index found ≡ opened_line name opened.need opened.unknown) × (new ≡ with_opened old found)
Opens index found name old new (Err (Refused refusal)) = (found ≡ Err refusal) × (new ≡ old)
Opens index found name old new (Err NoMemory) = new ≡ old

-- what a fault of mentions is at a desk
abbrev pub refuses : QueryFault → SessionFault
refuses (query_faults.Refused refusal) = Refused (query_refusal refusal.why)
refuses query_faults.NoMemory = NoMemory
