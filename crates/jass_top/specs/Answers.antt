-- What `once` answers: a query of words over an index. Scoring by falling weight under a budget of postings is Lin and
-- Trotman's ("Anytime Ranking for Impact-Ordered Indexes", ICTIR 2015).
use Rattle.std.specs.Prelude.{ℕ, List, [], ◌∷◌, ◌++◌, codes}
use Rattle.jass_base.specs.declared.answer.Budget.{Budget}
use Rattle.jass_base.specs.declared.answer.Report.{Report}
use Rattle.ranking_model.specs.declared.plan.QueryPlan.{QueryPlan}
use Rattle.ranking_model.specs.Plan.{granted_sum, prefix_within, size_of_first}
use Rattle.ranking_model.specs.Report.{report_line, run_lines}
use Rattle.ranking_model.specs.Scores.{top_k}
use Rattle.ranking_model.specs.Search.{QueryData}
use Rattle.index_model.specs.Index.{IndexData}
use Rattle.index_file.specs.Places.{texts_of}
use Rattle.query_reader.specs.Mentions.{words_as_mentions, named_of, unknown_of}
use Rattle.jass_top.specs.SearchMeaning.{plan_over_index}

-- a query of words, how many hits are asked for, and the budget
pub record OnceQuery : Type 0 where
  pub k : ℕ
  pub budget : Budget
  pub words : List (List ℕ)

-- a query of words over an index, in which each word counts once
abbrev pub words_query : IndexData → List (List ℕ) → QueryData
words_query index words = record {
  id = codes "q";
  terms = named_of (texts_of index.terms) (words_as_mentions words);
  unknown = unknown_of (texts_of index.terms) (words_as_mentions words);
}

abbrev pub once_query : IndexData → OnceQuery → QueryData
once_query index query = words_query index query.words

-- its plan, and the longest prefix of the plan that fits the budget
abbrev pub once_plan : IndexData → OnceQuery → QueryPlan
once_plan index query = plan_over_index index (once_query index query)

abbrev pub once_prefix : IndexData → OnceQuery → ℕ
once_prefix index query = prefix_within (granted_sum (query.budget ∷ [])) (once_plan index query).segments

-- the postings that are scored
abbrev pub once_steps : IndexData → OnceQuery → ℕ
once_steps index query = size_of_first (once_prefix index query) (once_plan index query).segments

-- the report line, and the run lines of the top k by score, then document, of the sums over that prefix
abbrev pub once_text : IndexData → OnceQuery → Report → List ℕ
once_text index query report =
    report_line (codes "q") report (once_query index query).unknown
    ++ run_lines index.names (codes "q") (codes "jass") 1
    (top_k (once_prefix index query) (once_plan index query) query.k)
