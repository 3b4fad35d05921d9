-- What the answers of a trial sum up to, as functions of an index: the grades are those of the rule.
use Rattle.std.specs.Prelude.{ℕ, ◌+◌, List, [], ◌∷◌, ◌++◌, codes, if◌then◌else◌}
use Rattle.jass_base.specs.declared.answer.Hit.{Hit}
use Rattle.jass_base.specs.declared.answer.Report.{Report}
use Rattle.ranking_model.specs.Scores.{top_k}
use Rattle.ranking_model.specs.Search.{QueryData, prefix_granted}
use Rattle.final_certificate.specs.Rule.{report_by}
use Rattle.index_model.specs.Index.{IndexData}
use Rattle.index_file.specs.declared.figures.CodecUse.{CodecUse}
use Rattle.jass_top.specs.declared.trial_sums.BudgetSum.{BudgetSum}
use Rattle.jass_top.specs.declared.trial_sums.TrialSums.{TrialSums}
use Rattle.jass_top.specs.Meanings.{Output}
use Rattle.jass_top.specs.SearchTexts.{plan_for, queries_steps}
use Rattle.jass_top.specs.TrialMeaning.{trial_budgets, hit_scores, is_final, use_line, sum_line}

-- nothing was answered yet
abbrev pub no_answers : BudgetSum
no_answers = record { postings = 0; finals = 0; scores = 0 }

abbrev pub no_sums : TrialSums
no_sums = record { first = no_answers; second = no_answers; last = no_answers }

-- with one answer more
abbrev pub with_answer : BudgetSum → Report → List Hit → BudgetSum
with_answer sum report hits = record {
  postings = sum.postings + report.postings;
  finals = sum.finals + (if is_final report.grade then 1 else 0);
  scores = sum.scores + hit_scores hits;
}

-- the report and the hits of a query after so many grants
abbrev pub prefix_after : IndexData → ℕ → QueryData → ℕ
prefix_after index grants query = prefix_granted grants trial_budgets (plan_for index query)

unfoldable pub report_after : IndexData → ℕ → QueryData → Report
report_after index grants query = report_by (prefix_after index grants query) (plan_for index query) 10

unfoldable pub hits_after : IndexData → ℕ → QueryData → List Hit
hits_after index grants query = top_k (prefix_after index grants query) (plan_for index query) 10

abbrev pub with_query_after : IndexData → ℕ → QueryData → BudgetSum → BudgetSum
with_query_after index grants query sum =
    with_answer sum (report_after index grants query) (hits_after index grants query)

-- with the answers to one query more, after each of its grants
abbrev pub with_query : IndexData → QueryData → TrialSums → TrialSums
with_query index query sums = record {
  first = with_query_after index 1 query sums.first;
  second = with_query_after index 2 query sums.second;
  last = with_query_after index 3 query sums.last;
}

abbrev pub with_queries : IndexData → List QueryData → TrialSums → TrialSums
with_queries index [] sums = sums
with_queries index (query ∷ queries) sums = with_queries index queries (with_query index query sums)

-- the lines of the summary
abbrev pub budget_text : List ℕ → BudgetSum → List ℕ
budget_text budget sum = sum_line budget sum.postings sum.finals sum.scores

abbrev pub trial_text : IndexData → CodecUse → TrialSums → List ℕ
trial_text index uses sums =
    use_line index uses
    ++ (budget_text (codes "1000") sums.first
    ++ (budget_text (codes "10000") sums.second
    ++ budget_text (codes "all") sums.last))

-- what is left in the end
abbrev pub trial_output : IndexData → CodecUse → List QueryData → Output
trial_output index uses queries = record {
  content = [];
  text = trial_text index uses (with_queries index queries no_sums);
  steps = queries_steps index trial_budgets queries;
}
