-- What a search leaves of one query, as functions of its plan: the grades are those of the rule.
use Rattle.std.specs.Prelude.{ℕ, List, flat_map, length, ◌==◌, if◌then◌else◌}
use Rattle.jass_base.specs.declared.answer.Budget.{Budget}
use Rattle.ranking_model.specs.declared.entry.Entry.{Entry}
use Rattle.ranking_model.specs.declared.plan.QueryPlan.{QueryPlan}
use Rattle.ranking_model.specs.Plan.{plan_of}
use Rattle.ranking_model.specs.Report.{report_line}
use Rattle.ranking_model.specs.Search.{QueryData, prefixes_granted}
use Rattle.trec_run.specs.declared.run_line.RunLine.{RunLine}
use Rattle.run_audit.specs.declared.row.Wanted.{Wanted}
use Rattle.run_audit.specs.Private.Grading.{report_by}
use Rattle.run_audit.specs.Rows.{answers_at, part_rows}

-- the report lines of a query at some prefixes of its plan
unfoldable pub reports_at : QueryPlan → ℕ → QueryData → List ℕ → List ℕ
reports_at plan k query prefixes = flat_map (λ n. report_line query.id (report_by n plan k) query.unknown) prefixes

-- the rows of a query at some prefixes of its plan, as parts from a number on
unfoldable pub rows_at : List (List ℕ) → QueryPlan → ℕ → List ℕ → QueryData → ℕ → List ℕ → List RunLine
rows_at names plan k tag query part prefixes = part_rows names query.id tag part (answers_at plan k prefixes)

-- the part of the first answer: 0 where it is the only one, else 1
abbrev pub first_part_of : List Budget → ℕ
first_part_of budgets = if length budgets == 1 then 0 else 1

-- the plan of a query
abbrev pub plan_for : List (List ℕ) → List (Entry ℕ) → QueryData → QueryPlan
plan_for names flat query = plan_of (length names) flat query.terms

-- what one query leaves, where each budget has an answer
abbrev pub query_reports : List (List ℕ) → List (Entry ℕ) → ℕ → List Budget → QueryData → List ℕ
query_reports names flat k budgets query =
    reports_at (plan_for names flat query) k query (prefixes_granted budgets (plan_for names flat query))

abbrev pub query_rows_for : List (List ℕ) → List (Entry ℕ) → ℕ → List Budget → List ℕ → QueryData → List RunLine
query_rows_for names flat k budgets tag query =
    rows_at names (plan_for names flat query) k tag query (first_part_of budgets) (prefixes_granted budgets (plan_for names flat query))

-- the rows of all queries, and the text of their reports
abbrev pub queries_reports : List (List ℕ) → List (Entry ℕ) → ℕ → List Budget → List QueryData → List ℕ
queries_reports names flat k budgets queries = flat_map (query_reports names flat k budgets) queries

abbrev pub queries_rows : List (List ℕ) → List (Entry ℕ) → ℕ → List Budget → List ℕ → List QueryData → List RunLine
queries_rows names flat k budgets tag queries = flat_map (query_rows_for names flat k budgets tag) queries

-- the row that a line is to be
abbrev pub wanted_row : Wanted → RunLine
wanted_row wanted = record { id = wanted.id.now; name = wanted.name.now; rank = wanted.rank; score = wanted.score; tag = wanted.tag.now }
