-- What a desk replies to a line, and what the line leaves. This project's.
use Rattle.std.specs.Prelude.{ℕ, ◌-◌, Bool, List, [], ◌∷◌, ◌++◌, length, map, decimal, codes, nat_lt, nat_le, Option, Some, None, Result, Ok, Err, is_none, is_some, if◌then◌else◌}
use Rattle.std.specs.Option.{option_map_or}
use Rattle.std.specs.Result.{result_err}
use Rattle.jass_base.specs.declared.answer.Budget.{Budget}
use Rattle.jass_base.specs.declared.answer.Hit.{Hit}
use Rattle.jass_base.specs.declared.answer.Report.{Report}
use Rattle.ranking_model.specs.declared.plan.QueryPlan.{QueryPlan}
use Rattle.ranking_model.specs.Plan.{prefix_within}
use Rattle.ranking_model.specs.Report.{report_line, run_lines}
use Rattle.ranking_model.specs.Scores.{top_k}
use Rattle.index_model.specs.Index.{IndexData}
use Rattle.index_file.specs.Places.{texts_of}
use Rattle.final_certificate.specs.Rule.{report_by}
use Rattle.query_reader.specs.declared.refusal.QueryWhy.{QueryWhy}
use Rattle.query_reader.specs.declared.refusal.QueryWhy.TheVariants.{Terms}
use Rattle.query_reader.specs.Queries as reader
use Rattle.query_reader.specs.Reading.{read_mentions}
use Rattle.query_reader.specs.Texts.{plain_mention}
use Rattle.session_engine.specs.Plans.{need_of, session_plan}
use Rattle.session_desk.specs.declared.refusal.DeskRefusal.{DeskRefusal}
use Rattle.session_desk.specs.declared.refusal.DeskRefusal.TheVariants.{BadLine, UnknownSession, NameInUse, DeskFull, TooManyTerms, NamedTooOften, PoolFull}
use Rattle.session_desk.specs.State.{DeskState, OpenSession, granted_more, session_named, spare_frames, with_named, without_named}
use Rattle.session_desk.specs.Lines.{DeskCommand, Open, Grant, Top, Why, Close, End, read_desk_line}
use Rattle.session_desk.specs.declared.desk_limits.TheConstants.{MOST_SESSIONS}

-- ---- the texts

-- `refused NUMBER WHY`
unfoldable pub refusal_line : DeskRefusal → List ℕ
refusal_line BadLine = codes "refused 70 bad line\n"
refusal_line UnknownSession = codes "refused 71 unknown session\n"
refusal_line NameInUse = codes "refused 72 name in use\n"
refusal_line DeskFull = codes "refused 73 desk full\n"
refusal_line TooManyTerms = codes "refused 52 too many terms\n"
refusal_line NamedTooOften = codes "refused 53 named too often\n"
refusal_line (PoolFull need free) = codes "refused 74 pool " ++ (decimal need ++ (codes " " ++ (decimal free ++ codes "\n")))

-- the plan of a session, and the prefix of it that its grants pay for
abbrev pub plan_of_session : IndexData → OpenSession → QueryPlan
plan_of_session index session = session_plan index session.query.terms

abbrev pub scored_prefix : IndexData → OpenSession → ℕ
scored_prefix index session = prefix_within session.granted (plan_of_session index session).segments

-- the report and the answer at this prefix
unfoldable pub session_report : IndexData → OpenSession → Report
session_report index session = report_by (scored_prefix index session) (plan_of_session index session) session.k

unfoldable pub session_answer : IndexData → OpenSession → List Hit
session_answer index session = top_k (scored_prefix index session) (plan_of_session index session) session.k

-- `opened NAME need N unknown U`
unfoldable pub opened_line : List ℕ → ℕ → ℕ → List ℕ
opened_line name need unknown =
    codes "opened " ++ (name ++ (codes " need " ++ (decimal need ++ (codes " unknown " ++ (decimal unknown ++ codes "\n")))))

abbrev pub opened_text : IndexData → OpenSession → List ℕ
opened_text index session = opened_line session.query.id (need_of index session.query.terms) session.query.unknown

-- the report line, with the session's name in front
abbrev pub report_text : IndexData → OpenSession → List ℕ
report_text index session = report_line session.query.id (session_report index session) session.query.unknown

-- `hits H`, and as many run lines
unfoldable pub answer_lines : List (List ℕ) → List ℕ → List Hit → List ℕ
answer_lines names name hits = codes "hits " ++ (decimal (length hits) ++ (codes "\n" ++ run_lines names name (codes "jass") 1 hits))

abbrev pub answer_text : IndexData → OpenSession → List ℕ
answer_text index session = answer_lines index.names session.query.id (session_answer index session)

-- `closed NAME`
unfoldable pub closed_text : List ℕ → List ℕ
closed_text name = codes "closed " ++ (name ++ codes "\n")

unfoldable pub end_text : List ℕ
end_text = codes "bye\n"

-- ---- opening

-- the refusal of mentions, which break one of two limits
abbrev pub query_refusal : QueryWhy → DeskRefusal
query_refusal Terms = TooManyTerms
query_refusal why = NamedTooOften

-- a session without grants, where its query has the frames that it needs
abbrev pub fitting : IndexData → DeskState → ℕ → Result reader.QueryData QueryWhy → Result OpenSession DeskRefusal
fitting index state k (Err why) = Err (query_refusal why)
fitting index state k (Ok query) =
    if nat_lt (spare_frames index state) (need_of index query.terms)
    then Err (PoolFull (need_of index query.terms) (spare_frames index state))
    else Ok (record { query = record { id = query.id; terms = query.terms; unknown = query.unknown }; k = k; granted = 0 })

-- why no session of a name is opened, whatever else is asked: this is judged before an `open` takes memory
abbrev pub room_refusal : List ℕ → DeskState → Option DeskRefusal
room_refusal name state =
    if is_some (session_named name state) then Some NameInUse
    else (if nat_le MOST_SESSIONS (length state.sessions) then Some DeskFull
    else None)

abbrev pub has_room : List ℕ → DeskState → Bool
has_room name state = is_none (room_refusal name state)

abbrev pub unless_refused : Option DeskRefusal → Result OpenSession DeskRefusal → Result OpenSession DeskRefusal
unless_refused (Some refusal) found = Err refusal
unless_refused None found = found

-- the session that is opened, or the first refusal
unfoldable pub opening : IndexData → DeskState → List ℕ → ℕ → List (List ℕ) → Result OpenSession DeskRefusal
opening index state name k words =
    unless_refused (room_refusal name state)
    (fitting index state k (read_mentions (texts_of index.terms) name (map plain_mention words)))

abbrev pub opened_reply : IndexData → Result OpenSession DeskRefusal → List ℕ
opened_reply index (Ok session) = opened_text index session
opened_reply index (Err refusal) = refusal_line refusal

abbrev pub with_opened : DeskState → Result OpenSession DeskRefusal → DeskState
with_opened state (Ok session) = record state { sessions = state.sessions ++ session ∷ [] }
with_opened state (Err refusal) = state

-- ---- one command

-- the reply of a session, where there is one
abbrev pub reply_of : (OpenSession → List ℕ) → Option OpenSession → List ℕ
reply_of text (Some session) = text session
reply_of text None = refusal_line UnknownSession

-- the reply to `close`, and the state after it: neither depends on the index
abbrev pub close_reply : DeskState → List ℕ → List ℕ
close_reply state name = reply_of (λ session. closed_text name) (session_named name state)

abbrev pub after_close : DeskState → List ℕ → DeskState
after_close state name = record state { sessions = without_named name state.sessions }

abbrev pub command_reply : IndexData → DeskState → DeskCommand → List ℕ
command_reply index state (Open name k words) = opened_reply index (opening index state name k words)
command_reply index state (Grant name budget) = reply_of (λ session. report_text index (granted_more budget session)) (session_named name state)
command_reply index state (Top name) = reply_of (answer_text index) (session_named name state)
command_reply index state (Why name) = reply_of (report_text index) (session_named name state)
command_reply index state (Close name) = close_reply state name
command_reply index state End = end_text

-- the state after it
abbrev pub command_after : IndexData → DeskState → DeskCommand → DeskState
command_after index state (Open name k words) = with_opened state (opening index state name k words)
command_after index state (Grant name budget) = record state { sessions = with_named name (granted_more budget) state.sessions }
command_after index state (Top name) = state
command_after index state (Why name) = state
command_after index state (Close name) = after_close state name
command_after index state End = state

-- the postings that a grant scores newly
abbrev pub newly_scored : IndexData → Budget → OpenSession → ℕ
newly_scored index budget session = (session_report index (granted_more budget session)).postings - (session_report index session).postings

abbrev pub command_steps : IndexData → DeskState → DeskCommand → ℕ
command_steps index state (Grant name budget) = option_map_or (newly_scored index budget) (session_named name state) 0
command_steps index state other = 0

-- the first refusal of a command, where it is refused
abbrev pub unknown_refusal : Option OpenSession → Option DeskRefusal
unknown_refusal (Some session) = None
unknown_refusal None = Some UnknownSession

abbrev pub command_refusal : IndexData → DeskState → DeskCommand → Option DeskRefusal
command_refusal index state (Open name k words) = result_err (opening index state name k words)
command_refusal index state (Grant name budget) = unknown_refusal (session_named name state)
command_refusal index state (Top name) = unknown_refusal (session_named name state)
command_refusal index state (Why name) = unknown_refusal (session_named name state)
command_refusal index state (Close name) = unknown_refusal (session_named name state)
command_refusal index state End = None

-- ---- one line

abbrev pub reply_to : IndexData → DeskState → Option DeskCommand → List ℕ
reply_to index state None = refusal_line BadLine
reply_to index state (Some command) = command_reply index state command

abbrev pub after_of : IndexData → DeskState → Option DeskCommand → DeskState
after_of index state None = state
after_of index state (Some command) = command_after index state command

abbrev pub steps_of : IndexData → DeskState → Option DeskCommand → ℕ
steps_of index state None = 0
steps_of index state (Some command) = command_steps index state command

abbrev pub refusal_of : IndexData → DeskState → Option DeskCommand → Option DeskRefusal
refusal_of index state None = Some BadLine
refusal_of index state (Some command) = command_refusal index state command

-- the reply to a line
unfoldable pub desk_reply : IndexData → DeskState → List ℕ → List ℕ
desk_reply index state line = reply_to index state (read_desk_line line)

-- the state after a line
unfoldable pub desk_after : IndexData → DeskState → List ℕ → DeskState
desk_after index state line = after_of index state (read_desk_line line)

-- the postings that a line scores newly
unfoldable pub desk_steps : IndexData → DeskState → List ℕ → ℕ
desk_steps index state line = steps_of index state (read_desk_line line)

-- why a line is refused, where it is
unfoldable pub desk_refusal : IndexData → DeskState → List ℕ → Option DeskRefusal
desk_refusal index state line = refusal_of index state (read_desk_line line)
