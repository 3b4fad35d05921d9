-- What `search` means: the answers to the queries of a file over an index, as run lines in a file, and a report line
-- for each answer on the output.
use Rattle.std.specs.Prelude.{◌≡◌, ℕ, List, [], ◌∷◌, length, sum_by, Option, Some, None}
use Rattle.std.specs.List.{last_or}
use Rattle.std.specs.Option.{unwrap_or}
use Rattle.jass_base.specs.declared.answer.Budget.{Budget}
use Rattle.jass_base.specs.declared.answer.Report.{Report}
use Rattle.jass_base.specs.Outside.{Files}
use Rattle.ranking_model.specs.declared.plan.QueryPlan.{QueryPlan}
use Rattle.ranking_model.specs.Plan.{granted_sum, plan_of, prefix_within, size_of_first}
use Rattle.ranking_model.specs.Postings.{weighted_postings}
use Rattle.ranking_model.specs.Promises.{IsPromised}
use Rattle.ranking_model.specs.Search.{AreReportLines, AreReportsAt, QueryData, search_run_at}
use Rattle.index_model.specs.Flat.{numbered_flat}
use Rattle.index_model.specs.Index.{IndexData}
use Rattle.index_file.specs.Places.{texts_of}
use Rattle.query_reader.specs.declared.mode.Mode.{Mode}
use Rattle.jass_top.specs.IndexJudging.{judge_index}
use Rattle.jass_top.specs.Judging.{Judged, Accepted, behind, judge_content}
use Rattle.jass_top.specs.Meanings.{Output, Meaning, reading_meaning}
use Rattle.jass_top.specs.QueryJudging.{LineQuery, judge_queries_until, without_lines}
use Rattle.jass_top.specs.Standing.{OfOutput, PartOfEach}
use Rattle.jass_top.specs.Until.{IsReportUntil, stops_granted}
use Rattle.jass_words.specs.declared.until.Until.{Until}
use Rattle.jass_words.specs.declared.until.Until.TheVariants as untils

-- ---- the inputs

-- an index, and queries over it
pub record SearchInputs : Type 0 where
  pub index : IndexData
  pub queries : List LineQuery

-- the index file first, then the content of the query file, then its queries
abbrev pub judge_search_until : Until → List ℕ → List ℕ → Mode → Option Files → Judged SearchInputs
judge_search_until until index queries mode told =
    behind (judge_index index told) (λ file.
    behind (judge_content queries told) (λ content.
    behind (judge_queries_until until queries mode (texts_of file.index.terms) content) (λ asked.
    Accepted (record { index = file.index; queries = asked }))))

-- where queries are searched as far as their grants pay
abbrev pub judge_search : List ℕ → List ℕ → Mode → Option Files → Judged SearchInputs
judge_search index queries mode told = judge_search_until untils.Budget index queries mode told

-- ---- the output

-- what is asked of each query: how many documents, how far it is searched, where to stop, as prefixes of its plan with an
-- answer at each, and the tag of its run lines
pub record Search : Type 0 where
  pub k : ℕ
  pub until : Until
  pub stops : QueryPlan → List ℕ
  pub tag : List ℕ

-- budgets are grants in parts: each stops where it and those before it make the query stop
abbrev pub search_until : Until → ℕ → List Budget → List ℕ → Search
search_until until k budgets tag = record { k = k; until = until; stops = stops_granted until k budgets; tag = tag }

-- each stops at the longest prefix that it and those before it pay for
abbrev pub search_within : ℕ → List Budget → List ℕ → Search
search_within k budgets tag = search_until untils.Budget k budgets tag

-- the plan of a query over an index
abbrev pub plan_over_index : IndexData → QueryData → QueryPlan
plan_over_index index query = plan_of (length index.names) (numbered_flat index) query.terms

-- a printed report after the first n segments of a query's plan, and what it promises
pub record IsReportOf (until : Until) (index : IndexData) (query : QueryData) (k n : ℕ) (report : Report) : Type 0 where
  pub exact : IsReportUntil until n (plan_over_index index query) k report
  pub promised : IsPromised (weighted_postings (numbered_flat index) query.terms) n (plan_over_index index query) k
      report

-- where it is searched as far as its grants pay
abbrev pub IsSearchReport : IndexData → QueryData → ℕ → ℕ → Report → Type 0
IsSearchReport index query k n report = IsReportOf untils.Budget index query k n report

-- one report for each stop
abbrev pub AreSearchReports : IndexData → Search → QueryData → List Report → Type 0
AreSearchReports index search query reports =
    AreReportsAt (IsReportOf search.until index query search.k) (search.stops (plan_over_index index query)) reports

-- the last of some prefixes, 0 where there is none
abbrev pub last_prefix : List ℕ → ℕ
last_prefix prefixes = unwrap_or (last_or None prefixes) 0

-- the postings of a plan that are scored in the end
abbrev pub scored_in : (QueryPlan → List ℕ) → QueryPlan → ℕ
scored_in stops plan = size_of_first (last_prefix (stops plan)) plan.segments

-- within budgets these are the postings of the longest prefix that all of them pay for
abbrev pub postings_within : List Budget → QueryPlan → ℕ
postings_within budgets plan = size_of_first (prefix_within (granted_sum budgets) plan.segments) plan.segments

-- the postings of a query over an index that are scored in the end
abbrev pub scored_postings : IndexData → (QueryPlan → List ℕ) → QueryData → ℕ
scored_postings index stops query = scored_in stops (plan_over_index index query)

-- the run lines in the file and the report lines on the output, query by query, for each query stop by stop; a step is a
-- posting that is newly scored
pub record IsSearchOutput (search : Search) (inputs : SearchInputs) (output : Output) : Type 0 where
  pub run : output.content
      ≡ search_run_at search.stops inputs.index.names (numbered_flat inputs.index) (without_lines inputs.queries)
      search.k search.tag
  pub reports : AreReportLines (AreSearchReports inputs.index search) (without_lines inputs.queries) output.text
  pub steps : output.steps ≡ sum_by (scored_postings inputs.index search.stops) (without_lines inputs.queries)

-- a search of inputs of these names writes and prints while it still takes memory
abbrev pub searching_meaning : List (List ℕ) → (Option Files → Judged SearchInputs) → List ℕ → Search → Meaning
searching_meaning names judge run search =
    record (reading_meaning names judge (IsSearchOutput search) (OfOutput (IsSearchOutput search) (PartOfEach run))) {
      file = Some run;
      AtMemory = OfOutput (IsSearchOutput search) (PartOfEach run);
    }

abbrev pub search_meaning : List ℕ → List ℕ → List ℕ → Search → Mode → Meaning
search_meaning index queries run search mode =
    searching_meaning (index ∷ queries ∷ []) (judge_search_until search.until index queries mode) run search
