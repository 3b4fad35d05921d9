-- What a search of many queries writes. This project's.
use Rattle.std.specs.Prelude.{◌≡◌, ℕ, ◌+◌, ◌==◌, List, [], ◌∷◌, ◌++◌, length, map, take, flat_map, if◌then◌else◌}
use Rattle.std.specs.List.{range_with_len, AllZip}
use Rattle.jass_base.specs.declared.answer.Budget.{Budget}
use Rattle.jass_base.specs.declared.answer.Hit.{Hit}
use Rattle.jass_base.specs.declared.answer.Report.{Report}
use Rattle.jass_base.specs.declared.query_term.QueryTerm.{QueryTerm}
use Rattle.jass_base.specs.declared.query.Query.{Query}
use Rattle.ranking_model.specs.declared.entry.Entry.{Entry}
use Rattle.ranking_model.specs.declared.plan.QueryPlan.{QueryPlan}
use Rattle.ranking_model.specs.Plan.{plan_of, granted_sum, prefix_within}
use Rattle.ranking_model.specs.Scores.{top_k}
use Rattle.ranking_model.specs.Report.{IsReport, report_line, tag_of, run_lines}

-- a query over an index: its id, its known terms by first mention, and the number of its other mentions
pub record QueryData : Type 0 where
  pub id : List ℕ
  pub terms : List QueryTerm
  pub unknown : ℕ

abbrev pub query_data : Query → QueryData
query_data query = record { id = query.id; terms = query.terms; unknown = query.unknown }

-- the prefix after the first j budgets
abbrev pub prefix_granted : ℕ → List Budget → QueryPlan → ℕ
prefix_granted j budgets plan = prefix_within (granted_sum (take j budgets)) plan.segments

-- the prefixes of a query, one for each budget, with those before it
abbrev pub prefixes_granted : List Budget → QueryPlan → List ℕ
prefixes_granted budgets plan = map (λ j. prefix_granted j budgets plan) (range_with_len 1 (length budgets))

-- the run lines of some answers, as parts with rising numbers
abbrev pub run_parts : List (List ℕ) → List ℕ → List ℕ → ℕ → List (List Hit) → List ℕ
run_parts names id tag part [] = []
run_parts names id tag part (hits ∷ answers) = run_lines names id (tag_of tag part) 1 hits ++ run_parts names id tag (part + 1) answers

-- the part of the first answer: 0 where it is the only one, else 1
abbrev pub first_part : List (List Hit) → ℕ
first_part answers = if length answers == 1 then 0 else 1

-- the run lines of the answers to one query
abbrev pub answers_run : List (List ℕ) → List ℕ → List ℕ → List (List Hit) → List ℕ
answers_run names id tag answers = run_parts names id tag (first_part answers) answers

-- the run lines of one query, whose answers are those at some prefixes of its plan
abbrev pub query_run : List (List ℕ) → QueryPlan → List ℕ → ℕ → List ℕ → List ℕ → List ℕ
query_run names plan id k prefixes tag = answers_run names id tag (map (λ n. top_k n plan k) prefixes)

-- the run lines of a search that answers each query at the prefixes that its plan has
abbrev pub search_run_at : (QueryPlan → List ℕ) → List (List ℕ) → List (Entry ℕ) → List QueryData → ℕ → List ℕ → List ℕ
search_run_at prefixes names flat queries k tag =
    flat_map (λ query. query_run names (plan_of (length names) flat query.terms) query.id k (prefixes (plan_of (length names) flat query.terms)) tag) queries

-- the run lines of a search, query by query, with an answer for each budget
abbrev pub search_run : List (List ℕ) → List (Entry ℕ) → List QueryData → ℕ → List Budget → List ℕ → List ℕ
search_run names flat queries k budgets tag = search_run_at (prefixes_granted budgets) names flat queries k tag

-- the reports at some prefixes, each as a report of its prefix has to be
abbrev pub AreReportsAt : (ℕ → Report → Type 0) → List ℕ → List Report → Type 0
AreReportsAt IsReportOf prefixes reports = AllZip IsReportOf prefixes reports

-- the reports of one query, one for each budget
abbrev pub AreReports : QueryPlan → ℕ → List Budget → List Report → Type 0
AreReports plan k budgets reports = AreReportsAt (λ n report. IsReport n plan k report) (prefixes_granted budgets plan) reports

-- the report lines of queries, each with its reports
abbrev pub report_lines : List QueryData → List (List Report) → List ℕ
report_lines [] reports = []
report_lines (query ∷ queries) [] = []
report_lines (query ∷ queries) (these ∷ others) = flat_map (λ report. report_line query.id report query.unknown) these ++ report_lines queries others

-- the text is the report lines of queries whose reports are such, query by query
pub record AreReportLines (AreReportsOf : QueryData → List Report → Type 0) (queries : List QueryData) (text : List ℕ) : Type 0 where
  pub reports : List (List Report)
  pub each : AllZip AreReportsOf queries reports
  pub is : text ≡ report_lines queries reports

-- the report lines of a search, query by query and for each query budget by budget
abbrev pub IsSearchReports : List (List ℕ) → List (Entry ℕ) → List QueryData → ℕ → List Budget → List ℕ → Type 0
IsSearchReports names flat queries k budgets text = AreReportLines (λ query reports. AreReports (plan_of (length names) flat query.terms) k budgets reports) queries text
