-- What a search leaves of one query, and what it counts.
use Rattle.std.specs.Prelude.{ℕ, ◌≡◌, ◌+◌, ◌≤◌, List, map, length, Result, MatchResult}
use Rattle.jass_base.specs.declared.query.Query.{Query}
use Rattle.ranking_model.specs.Report.{report_line, run_lines, tag_of}
use Rattle.ranking_model.specs.Search.{QueryData, query_data}
use Rattle.index_model.specs.Index.{IndexData}
use Rattle.accumulator_pages.specs.Adding.{page_count}
use Rattle.frame_pool.specs.Pool.{PoolView, spare_of}
use Rattle.session_engine.specs.Plans.{HasFreeNumber}
use Rattle.jass_words.specs.declared.until.Until.{Until}
use Rattle.jass_words.specs.declared.until.Until.TheVariants as untils
use Rattle.jass_words.specs.declared.word_limits.TheConstants.{MOST_FINAL_TERMS}
use Rattle.jass_top.specs.declared.engine.Engine.{Engine}
use Rattle.jass_top.specs.Private.Engines.{answer_over, query_of, report_of}

-- so many steps were counted; after a failure at most so many, and the count never fell
abbrev pub Stepped : {T E : Type 0} → ℕ → ℕ → ℕ → Result T E → Type 0
Stepped old new count result = MatchResult result (λ _. new ≡ old + count) (λ _. (old ≤ new) × (new ≤ old + count))

-- the queries as plain data
abbrev pub asked_of : List Query → List QueryData
asked_of queries = map query_data queries

-- the run lines of an engine's answer as a part, and its report line
abbrev pub answer_text : IndexData → Engine → List ℕ → ℕ → List ℕ
answer_text index e tag part = run_lines index.names (query_of e).id (tag_of tag part) 1 (answer_over index e)

abbrev pub report_text : Engine → List ℕ
report_text e = report_line (query_of e).id (report_of e) (query_of e).unknown

-- a query can be searched so far: until final where it has at most 64 terms
abbrev pub MayStop : Until → Query → Type 0
MayStop until query = until ≡ untils.Final → length query.terms ≤ MOST_FINAL_TERMS

-- a pool can hold a session more over the index, whatever its query
pub record IsReady (index : IndexData) (pool : PoolView) : Type 0 where
  pub number : HasFreeNumber pool
  pub frames : page_count (length index.names) ≤ spare_of pool
