-- What `exhaust` means: the first documents of each query of a file by all its postings, as run lines in a file, and a
-- line for each query on the output.
use Rattle.std.specs.Prelude.{◌≡◌, ℕ, ◌++◌, List, [], ◌∷◌, length, flat_map, sum_by, decimal, codes, Some}
use Rattle.jass_base.specs.declared.answer.Hit.{Hit}
use Rattle.ranking_model.specs.Postings.{weighted_postings}
use Rattle.ranking_model.specs.Report.{run_lines}
use Rattle.ranking_model.specs.Scores.{top_k}
use Rattle.ranking_model.specs.Search.{QueryData}
use Rattle.index_model.specs.Flat.{numbered_flat}
use Rattle.index_model.specs.Index.{IndexData}
use Rattle.query_reader.specs.declared.mode.Mode.{Mode}
use Rattle.jass_top.specs.Meanings.{Output, Meaning, reading_meaning}
use Rattle.jass_top.specs.QueryJudging.{without_lines}
use Rattle.jass_top.specs.SearchMeaning.{SearchInputs, judge_search, plan_over_index}
use Rattle.jass_top.specs.Standing.{OfOutput, PartOfEach}

-- the first k documents of a query over an index, by the sums over all segments of its plan
abbrev pub exhaustive_answer : IndexData → ℕ → QueryData → List Hit
exhaustive_answer index k query = top_k (length (plan_over_index index query).segments) (plan_over_index index query) k

-- the run lines of a query
abbrev pub exhaustive_run : IndexData → ℕ → List ℕ → QueryData → List ℕ
exhaustive_run index k tag query = run_lines index.names query.id tag 1 (exhaustive_answer index k query)

-- the line of a query: its id, the number of its run lines, and how many of its mentions name no term
abbrev pub hits_line : List ℕ → ℕ → ℕ → List ℕ
hits_line id hits unknown = id ++ (codes " hits " ++ (decimal hits ++ (codes " unknown " ++ (decimal unknown ++ codes "\n"))))

abbrev pub exhaustive_line : IndexData → ℕ → QueryData → List ℕ
exhaustive_line index k query = hits_line query.id (length (exhaustive_answer index k query)) query.unknown

-- the number of postings of a query's terms
abbrev pub postings_of_query : IndexData → QueryData → ℕ
postings_of_query index query = length (weighted_postings (numbered_flat index) query.terms)

-- ---- all queries

abbrev pub exhaustive_runs : IndexData → ℕ → List ℕ → List QueryData → List ℕ
exhaustive_runs index k tag queries = flat_map (exhaustive_run index k tag) queries

abbrev pub exhaustive_lines : IndexData → ℕ → List QueryData → List ℕ
exhaustive_lines index k queries = flat_map (exhaustive_line index k) queries

abbrev pub postings_of_queries : IndexData → List QueryData → ℕ
postings_of_queries index queries = sum_by (postings_of_query index) queries

-- the run lines in the file and the lines on the output, query by query; a step is a posting of a query's term
abbrev pub exhaustive_output : IndexData → ℕ → List ℕ → List QueryData → Output
exhaustive_output index k tag queries = record {
  content = exhaustive_runs index k tag queries;
  text = exhaustive_lines index k queries;
  steps = postings_of_queries index queries;
}

abbrev pub IsExhaustOutput : ℕ → List ℕ → SearchInputs → Output → Type 0
IsExhaustOutput k tag inputs output = output ≡ exhaustive_output inputs.index k tag (without_lines inputs.queries)

-- it writes and prints while it still takes memory
abbrev pub exhaust_meaning : List ℕ → List ℕ → List ℕ → ℕ → List ℕ → Mode → Meaning
exhaust_meaning index queries run k tag mode =
    record (reading_meaning (index ∷ queries ∷ []) (judge_search index queries mode) (IsExhaustOutput k tag)
    (OfOutput (IsExhaustOutput k tag) (PartOfEach run))) {
      file = Some run;
      AtMemory = OfOutput (IsExhaustOutput k tag) (PartOfEach run);
    }
