-- What a search leaves query by query, as functions of an index: the grades are those of the rule.
use Rattle.std.specs.Prelude.{ℕ, ◌==◌, List, map, flat_map, sum_by, length, if◌then◌else◌}
use Rattle.jass_base.specs.declared.answer.Budget.{Budget}
use Rattle.jass_base.specs.declared.answer.Report.{Report}
use Rattle.ranking_model.specs.declared.plan.QueryPlan.{QueryPlan}
use Rattle.ranking_model.specs.Report.{report_line, report_of}
use Rattle.ranking_model.specs.Scores.{top_k}
use Rattle.ranking_model.specs.Search.{QueryData, prefixes_granted, run_parts}
use Rattle.final_certificate.specs.Rule.{report_by}
use Rattle.index_model.specs.Index.{IndexData}
use Rattle.session_engine.specs.Plans.{session_plan}
use Rattle.sharp_bounds.specs.Rule.{sharp_grade}
use Rattle.jass_words.specs.declared.until.Until.{Until}
use Rattle.jass_words.specs.declared.until.Until.TheVariants as untils
use Rattle.jass_top.specs.Meanings.{Output}
use Rattle.jass_top.specs.SearchMeaning.{Search, postings_within, scored_in}

-- the plan of a query
abbrev pub plan_for : IndexData → QueryData → QueryPlan
plan_for index query = session_plan index query.terms

-- the run lines of a query's answers at some prefixes, as parts from a number on
unfoldable pub parts_run : IndexData → ℕ → List ℕ → QueryData → ℕ → List ℕ → List ℕ
parts_run index k tag query part prefixes =
    run_parts index.names query.id tag part (map (λ n. top_k n (plan_for index query) k) prefixes)

-- the report after the first n segments, with the grade of the rule for a query that is searched so far
abbrev pub report_until : Until → ℕ → QueryPlan → ℕ → Report
report_until untils.Budget n plan k = report_by n plan k
report_until untils.Final n plan k = report_of n plan (sharp_grade n plan k)

-- the report lines of a query at some prefixes
unfoldable pub parts_reports : IndexData → Until → ℕ → QueryData → List ℕ → List ℕ
parts_reports index until k query prefixes =
    flat_map (λ n. report_line query.id (report_until until n (plan_for index query) k) query.unknown) prefixes

-- the part of the first of some answers: 0 where it is the only one, else 1
abbrev pub first_part_of : {A : Type 0} → List A → ℕ
first_part_of answers = if length answers == 1 then 0 else 1

-- ---- where a rule stops

-- the stops of a query
abbrev pub stops_for : IndexData → Search → QueryData → List ℕ
stops_for index search query = search.stops (plan_for index query)

-- what one query leaves, and the postings that are scored for it in the end
abbrev pub stops_run : IndexData → Search → QueryData → List ℕ
stops_run index search query =
    parts_run index search.k search.tag query (first_part_of (stops_for index search query)) (stops_for index search query)

abbrev pub stops_reports : IndexData → Search → QueryData → List ℕ
stops_reports index search query =
    parts_reports index search.until search.k query (stops_for index search query)

abbrev pub stops_steps : IndexData → Search → QueryData → ℕ
stops_steps index search query = scored_in search.stops (plan_for index query)

-- what all queries leave
abbrev pub search_output : IndexData → Search → List QueryData → Output
search_output index search queries = record {
  content = flat_map (stops_run index search) queries;
  text = flat_map (stops_reports index search) queries;
  steps = sum_by (stops_steps index search) queries;
}

-- ---- within budgets

-- the prefixes of a query's plan, one for each budget
abbrev pub prefixes_for : IndexData → List Budget → QueryData → List ℕ
prefixes_for index budgets query = prefixes_granted budgets (plan_for index query)

-- what one query leaves
abbrev pub query_run : IndexData → ℕ → List Budget → List ℕ → QueryData → List ℕ
query_run index k budgets tag query =
    parts_run index k tag query (first_part_of budgets) (prefixes_for index budgets query)

abbrev pub query_reports : IndexData → ℕ → List Budget → QueryData → List ℕ
query_reports index k budgets query =
    parts_reports index untils.Budget k query (prefixes_for index budgets query)

-- the postings that are scored for it in the end
abbrev pub query_steps : IndexData → List Budget → QueryData → ℕ
query_steps index budgets query = postings_within budgets (plan_for index query)

-- what all queries leave
abbrev pub queries_run : IndexData → ℕ → List Budget → List ℕ → List QueryData → List ℕ
queries_run index k budgets tag queries = flat_map (query_run index k budgets tag) queries

abbrev pub queries_reports : IndexData → ℕ → List Budget → List QueryData → List ℕ
queries_reports index k budgets queries = flat_map (query_reports index k budgets) queries

abbrev pub queries_steps : IndexData → List Budget → List QueryData → ℕ
queries_steps index budgets queries = sum_by (query_steps index budgets) queries

abbrev pub budgets_output : IndexData → ℕ → List Budget → List ℕ → List QueryData → Output
budgets_output index k budgets tag queries = record {
  content = queries_run index k budgets tag queries;
  text = queries_reports index k budgets queries;
  steps = queries_steps index budgets queries;
}
