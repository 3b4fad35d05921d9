-- The sum of a session's grants, and what it pays for.
use Rattle.shared_lemmas.proofs.Common.{◌≡◌, ℕ, ◌+◌, ◌-◌, ◌≤◌, ◌^◌, Bool, true, false, cond, List, [], ◌∷◌, ◌++◌, length, drop, Option, Some, None, refl, sym, ap, ◌∙◌, append-nil, append_assoc, arith, sum_by-append, sum_by-cons, codes, decimal, AllByRecursion}
use Rattle.std.proofs.lemmas.Bool.{true≢false}
use Rattle.session_desk.proofs.Below.{Budget, Report, PlanSegment, QueryPlan, amount_of, granted_sum, granted_with, prefix_within, size_of_first, report_line, run_lines, top_k, query_run, report_by, IndexData}
use Rattle.session_desk.specs.Alone.{after_lines, budget_in, budgets_in, command_names, does_close, does_name}
use Rattle.session_desk.specs.Lines.{DeskCommand, Open, Grant, Top, Why, Close, End, read_desk_line}
use Rattle.session_desk.specs.Replies.{answer_lines, answer_text, command_reply, desk_after, desk_reply, plan_of_session, reply_of, reply_to, report_text, scored_prefix, session_answer, session_report}
use Rattle.session_desk.specs.State.{DeskState, OpenSession, granted_more, session_named}
use Rattle.session_desk.proofs.Isolation.{after_command, other_line, own_line}

-- ---- sums

-- one budget more
pub granted_behind : (budgets : List Budget) (budget : Budget) → granted_with (granted_sum budgets) budget ≡ granted_sum (budgets ++ budget ∷ [])
granted_behind budgets budget = omega (arith, sum_by-append amount_of budgets (budget ∷ []), sum_by-cons amount_of budget [])

abbrev given : OpenSession → List Budget → OpenSession
given session budgets = record session { granted = granted_sum budgets }

given_already : (session : OpenSession) (budgets : List Budget) → session.granted ≡ granted_sum budgets → session ≡ given session budgets
given_already session budgets is = λ i. record session { granted = is i }

-- a command that names a session grants it the budget that it has
command_grants : (name : List ℕ) (session : OpenSession) (budgets : List Budget) (command : Option DeskCommand) → command_names name command ≡ true → session.granted ≡ granted_sum budgets
    → after_command session command ≡ given session (budgets ++ budget_in name command)
command_grants name session budgets None names is = absurd (true≢false (sym names))
command_grants name session budgets (Some (Open n k words)) names is = given_already session (budgets ++ []) (is ∙ ap granted_sum (sym (append-nil budgets)))
command_grants name session budgets (Some (Grant n budget)) names is =
    given_granted ∙ ap (λ (b : Bool). given session (budgets ++ cond b (budget ∷ []) [])) (sym names)
  where
    given_granted : granted_more budget session ≡ given session (budgets ++ budget ∷ [])
    given_granted = λ i. record session { granted = (ap (λ g. granted_with g budget) is ∙ granted_behind budgets budget) i }
command_grants name session budgets (Some (Top n)) names is = given_already session (budgets ++ []) (is ∙ ap granted_sum (sym (append-nil budgets)))
command_grants name session budgets (Some (Why n)) names is = given_already session (budgets ++ []) (is ∙ ap granted_sum (sym (append-nil budgets)))
command_grants name session budgets (Some (Close n)) names is = given_already session (budgets ++ []) (is ∙ ap granted_sum (sym (append-nil budgets)))
command_grants name session budgets (Some End) names is = absurd (true≢false (sym names))

none_budgeted : (name : List ℕ) (command : Option DeskCommand) → command_names name command ≡ false → budget_in name command ≡ []
none_budgeted name None other = refl
none_budgeted name (Some (Grant n budget)) other = ap (λ (b : Bool). cond b (budget ∷ []) []) other
none_budgeted name (Some command) other = refl

-- ---- lines

line_grants : (name : List ℕ) (session : OpenSession) (budgets : List Budget) (line : List ℕ) → does_name name line ≡ true → session.granted ≡ granted_sum budgets
    → after_command session (read_desk_line line) ≡ given session (budgets ++ budget_in name (read_desk_line line))
unfolding does_name
line_grants name session budgets line names is = command_grants name session budgets (read_desk_line line) names is

line_budgets_none : (name line : List ℕ) → does_name name line ≡ false → budget_in name (read_desk_line line) ≡ []
unfolding does_name
line_budgets_none name line other = none_budgeted name (read_desk_line line) other

after_cons : (index : IndexData) (state : DeskState) (line : List ℕ) (lines : List (List ℕ)) → after_lines index state (line ∷ lines) ≡ after_lines index (desk_after index state line) lines
unfolding after_lines
after_cons index state line lines = refl

after_none : (index : IndexData) (state : DeskState) → after_lines index state [] ≡ state
unfolding after_lines
after_none index state = refl

budgets_cons : (name line : List ℕ) (lines : List (List ℕ)) → budgets_in name (line ∷ lines) ≡ budget_in name (read_desk_line line) ++ budgets_in name lines
unfolding budgets_in
budgets_cons name line lines = refl

budgets_none : (name : List ℕ) → budgets_in name [] ≡ []
unfolding budgets_in
budgets_none name = refl

pub lines_grant : (index : IndexData) (name : List ℕ) (state : DeskState) (session : OpenSession) (budgets : List Budget) (lines : List (List ℕ)) → session_named name state ≡ Some session → session.granted ≡ granted_sum budgets
    → AllByRecursion (λ line. does_close name line ≡ false) lines → session_named name (after_lines index state lines) ≡ Some (record session { granted = granted_sum (budgets ++ budgets_in name lines) })
lines_grant index name state session budgets [] found is stays = ap (session_named name) (after_none index state) ∙ found
    ∙ ap (λ e. Some e) (given_already session (budgets ++ budgets_in name []) (is ∙ ap granted_sum (sym (ap (λ bs. budgets ++ bs) (budgets_none name) ∙ append-nil budgets))))
lines_grant index name state session budgets (line ∷ lines) found is stays = ap (session_named name) (after_cons index state line lines)
    ∙ here (does_name name line) refl (λ s e bs f g. lines_grant index name s e bs lines f g stays.1)
    ∙ ap (λ bs. Some (given session (budgets ++ bs))) (sym (budgets_cons name line lines))
  where
    here : (b : Bool) → does_name name line ≡ b
        → ((s : DeskState) (e : OpenSession) (bs : List Budget) → session_named name s ≡ Some e → e.granted ≡ granted_sum bs → session_named name (after_lines index s lines) ≡ Some (given e (bs ++ budgets_in name lines)))
        → session_named name (after_lines index (desk_after index state line) lines) ≡ Some (given session (budgets ++ (budget_in name (read_desk_line line) ++ budgets_in name lines)))
    here true names later =
        let more : List Budget = budgets ++ budget_in name (read_desk_line line) in
        later (desk_after index state line) (given session more) more (own_line index name state session line names stays.0 found ∙ ap (λ e. Some e) (line_grants name session budgets line names is)) refl
        ∙ ap (λ bs. Some (given session bs)) (append_assoc budgets (budget_in name (read_desk_line line)) (budgets_in name lines))
    here false other later = later (desk_after index state line) session budgets (other_line index name state session line other found) is
        ∙ ap (λ bs. Some (given session (budgets ++ (bs ++ budgets_in name lines)))) (sym (line_budgets_none name line other))

-- ---- what is paid for

-- the size of a prefix rises with what pays for it
pub size_rises : ((n more : ℕ) (segments : List PlanSegment) → size_of_first (n + more) segments ≡ size_of_first n segments + size_of_first more (drop n segments))
    → ((before budget n : ℕ) (segments : List PlanSegment) → n ≡ prefix_within before segments → before ≤ budget → prefix_within budget segments ≡ n + prefix_within (budget - size_of_first n segments) (drop n segments))
    → (before after : ℕ) (segments : List PlanSegment) → before ≤ after → size_of_first (prefix_within before segments) segments ≤ size_of_first (prefix_within after segments) segments
size_rises size prefix before after segments less =
    let n : ℕ = prefix_within before segments in
    let more : ℕ = prefix_within (after - size_of_first n segments) (drop n segments) in
    omega (arith, ap (λ m. size_of_first m segments) (prefix before after n segments refl less), size n more segments)

pub granted_rises : (session : OpenSession) (budget : Budget) → session.granted ≤ 2 ^ 64 - 1 → session.granted ≤ granted_with session.granted budget
granted_rises session budget most = omega (arith, most)

pub size_is : (index : IndexData) (session : OpenSession) → (session_report index session).postings ≡ size_of_first (scored_prefix index session) (plan_of_session index session).segments
unfolding session_report
size_is index session = refl

-- ---- one search

pub reported : (index : IndexData) (session : OpenSession) (budgets : List Budget) → session.granted ≡ granted_sum budgets
    → session_report index session ≡ report_by (prefix_within (granted_sum budgets) (plan_of_session index session).segments) (plan_of_session index session) session.k
unfolding session_report
reported index session budgets is = ap (λ g. report_by (prefix_within g (plan_of_session index session).segments) (plan_of_session index session) session.k) is

pub answered : (index : IndexData) (session : OpenSession) (budgets : List Budget) → session.granted ≡ granted_sum budgets
    → session_answer index session ≡ top_k (prefix_within (granted_sum budgets) (plan_of_session index session).segments) (plan_of_session index session) session.k
unfolding session_answer
answered index session budgets is = ap (λ g. top_k (prefix_within g (plan_of_session index session).segments) (plan_of_session index session) session.k) is

reply_is : (index : IndexData) (state : DeskState) (line : List ℕ) (command : DeskCommand) → read_desk_line line ≡ Some command → desk_reply index state line ≡ command_reply index state command
unfolding desk_reply
reply_is index state line command read = ap (reply_to index state) read

pub grant_told : (index : IndexData) (state : DeskState) (line name : List ℕ) (session : OpenSession) (budgets : List Budget) (budget : Budget)
    → read_desk_line line ≡ Some (Grant name budget) → session_named name state ≡ Some session → session.granted ≡ granted_sum budgets
    → desk_reply index state line
    ≡ report_line session.query.id (report_by (prefix_within (granted_sum (budgets ++ budget ∷ [])) (plan_of_session index session).segments) (plan_of_session index session) session.k) session.query.unknown
grant_told index state line name session budgets budget read found is =
    reply_is index state line (Grant name budget) read ∙ ap (reply_of (λ e. report_text index (granted_more budget e))) found
    ∙ ap (λ (r : Report). report_line session.query.id r session.query.unknown) (reported index (granted_more budget session) (budgets ++ budget ∷ []) (ap (λ g. granted_with g budget) is ∙ granted_behind budgets budget))

pub why_told : (index : IndexData) (state : DeskState) (line name : List ℕ) (session : OpenSession) (budgets : List Budget)
    → read_desk_line line ≡ Some (Why name) → session_named name state ≡ Some session → session.granted ≡ granted_sum budgets → desk_reply index state line
    ≡ report_line session.query.id (report_by (prefix_within (granted_sum budgets) (plan_of_session index session).segments) (plan_of_session index session) session.k) session.query.unknown
why_told index state line name session budgets read found is = reply_is index state line (Why name) read ∙ ap (reply_of (report_text index)) found
    ∙ ap (λ (r : Report). report_line session.query.id r session.query.unknown) (reported index session budgets is)

one_run : (names : List (List ℕ)) (plan : QueryPlan) (id : List ℕ) (k n : ℕ) → answer_lines names id (top_k n plan k) ≡ codes "hits " ++ (decimal (length (top_k n plan k)) ++ (codes "\n" ++ query_run names plan id k (n ∷ []) (codes "jass")))
unfolding answer_lines
one_run names plan id k n = ap (λ (t : List ℕ). codes "hits " ++ (decimal (length (top_k n plan k)) ++ (codes "\n" ++ t))) (sym (append-nil (run_lines names id (codes "jass") 1 (top_k n plan k))))

pub top_told : (index : IndexData) (state : DeskState) (line name : List ℕ) (session : OpenSession) (budgets : List Budget)
    → read_desk_line line ≡ Some (Top name) → session_named name state ≡ Some session → session.granted ≡ granted_sum budgets
    → (let plan = plan_of_session index session in
    let prefix = prefix_within (granted_sum budgets) plan.segments in
    desk_reply index state line ≡ codes "hits " ++ (decimal (length (top_k prefix plan session.k)) ++ (codes "\n" ++ query_run index.names plan session.query.id session.k (prefix ∷ []) (codes "jass"))))
top_told index state line name session budgets read found is = reply_is index state line (Top name) read ∙ ap (reply_of (answer_text index)) found
    ∙ ap (answer_lines index.names session.query.id) (answered index session budgets is)
    ∙ one_run index.names (plan_of_session index session) session.query.id session.k (prefix_within (granted_sum budgets) (plan_of_session index session).segments)
