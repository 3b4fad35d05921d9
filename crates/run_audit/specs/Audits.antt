-- What an audit of a search says. This project's.
use Rattle.std.specs.Prelude.{ℕ, ◌≡◌, ◌≤◌, ◌+◌, List, length, map, sum_by, Result, MatchResult, All}
use Rattle.std.specs.List.{AllByRecursion}
use Rattle.jass_base.specs.declared.answer.Budget.{Budget}
use Rattle.jass_base.specs.declared.query.Query.{Query}
use Rattle.ranking_model.specs.declared.entry.Entry.{Entry}
use Rattle.jass_base.specs.declared.limits.TheConstants.{MOST_TIMES}
use Rattle.jass_base.specs.declared.query_term.QueryTerm.{QueryTerm}
use Rattle.ranking_model.specs.Postings.{AreTerms, weighted_postings}
use Rattle.ranking_model.specs.Search.{QueryData, IsSearchReports, query_data}
use Rattle.trec_run.specs.declared.run_line.RunLine.{RunLine}
use Rattle.run_audit.specs.declared.search.Search.{Search}
use Rattle.run_audit.specs.declared.verdict.Verdict.{Verdict}
use Rattle.run_audit.specs.declared.search.TheConstants.{MOST_BUDGETS}
use Rattle.run_audit.specs.Rows.{IsColumn, IsLastColumn, search_rows}
use Rattle.run_audit.specs.Verdicts.{IsVerdict}

-- what a search asks, as plain data: the most hits of an answer, the grants, and the tag of its run lines
pub record SearchData : Type 0 where
  pub k : ℕ
  pub budgets : List Budget
  pub tag : List ℕ

abbrev pub search_data : Search → SearchData
search_data search = record { k = search.k; budgets = search.budgets.now; tag = search.tag.now }

abbrev pub queries_data : List Query → List QueryData
queries_data queries = map query_data queries

-- the verdict on a run and on reports beside what this search leaves: its rows, and the text of its reports
pub record IsAudit (names : List (List ℕ)) (flat : List (Entry ℕ)) (queries : List QueryData) (search : SearchData) (run : List RunLine) (reports : List ℕ) (verdict : Verdict) : Type 0 where
  pub text : List ℕ
  pub printed : IsSearchReports names flat queries search.k search.budgets text
  pub judged : IsVerdict (search_rows names flat queries search.k search.budgets search.tag) text run reports verdict

-- the postings of all terms of some queries
abbrev pub queries_postings : List (Entry ℕ) → List QueryData → ℕ
queries_postings flat queries = sum_by (λ (query : QueryData). length (weighted_postings flat query.terms)) queries

-- so many steps were counted; where the call failed at most so many
abbrev pub Counts : {T E : Type 0} → ℕ → ℕ → ℕ → Result T E → Type 0
Counts old new count result = MatchResult result (λ _. new ≡ old + count) (λ _. (old ≤ new) × (new ≤ old + count))

-- what can be asked of an index so that its run is read as it is written: the ids and the tag are columns, the terms are a
-- query's, and there are as many grants as a command takes
pub record IsAskable (queries : List QueryData) (search : SearchData) : Type 0 where
  pub ids : AllByRecursion (λ (query : QueryData). IsColumn query.id) queries
  pub terms : AllByRecursion (λ (query : QueryData). AreTerms query.terms × All (λ (n : QueryTerm). n.times ≤ MOST_TIMES) query.terms) queries
  pub tag : IsLastColumn search.tag
  pub few : length search.budgets ≤ MOST_BUDGETS
