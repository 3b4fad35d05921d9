-- The run of a search as rows of columns. The columns are TREC's; what stands in them is this project's.
use Rattle.std.specs.Prelude.{ℕ, ◌<◌, ◌≤◌, ◌≢◌, ◌^◌, ◌+◌, List, [], ◌∷◌, ◌++◌, length, map, flat_map, All}
use Rattle.std.specs.List.{slice_index_or}
use Rattle.jass_base.specs.Limits.{IsText}
use Rattle.jass_base.specs.declared.answer.Budget.{Budget}
use Rattle.jass_base.specs.declared.answer.Hit.{Hit}
use Rattle.ranking_model.specs.declared.entry.Entry.{Entry}
use Rattle.ranking_model.specs.declared.plan.QueryPlan.{QueryPlan}
use Rattle.ranking_model.specs.Plan.{plan_of}
use Rattle.ranking_model.specs.Report.{run_line, tag_of}
use Rattle.ranking_model.specs.Scores.{top_k}
use Rattle.ranking_model.specs.Search.{QueryData, first_part, prefixes_granted}
use Rattle.trec_run.specs.declared.run_line.RunLine.{RunLine}

-- ---- the rows

-- the rows of an answer; the first of the hits has this rank
abbrev pub hit_rows : List (List ℕ) → List ℕ → List ℕ → ℕ → List Hit → List RunLine
hit_rows names id tag rank [] = []
hit_rows names id tag rank (hit ∷ hits) =
    record { id = id; name = slice_index_or names hit.doc []; rank = rank; score = hit.score; tag = tag } ∷ hit_rows names id tag (rank + 1) hits

-- the rows of some answers, as parts with rising numbers
abbrev pub part_rows : List (List ℕ) → List ℕ → List ℕ → ℕ → List (List Hit) → List RunLine
part_rows names id tag part [] = []
part_rows names id tag part (hits ∷ answers) = hit_rows names id (tag_of tag part) 1 hits ++ part_rows names id tag (part + 1) answers

-- the answers at some prefixes of a plan
abbrev pub answers_at : QueryPlan → ℕ → List ℕ → List (List Hit)
answers_at plan k prefixes = map (λ n. top_k n plan k) prefixes

-- the rows of one query, whose answers are those at some prefixes of its plan
abbrev pub query_rows : List (List ℕ) → QueryPlan → List ℕ → ℕ → List ℕ → List ℕ → List RunLine
query_rows names plan id k prefixes tag = part_rows names id tag (first_part (answers_at plan k prefixes)) (answers_at plan k prefixes)

-- the rows of a search, query by query, with an answer for each budget
abbrev pub search_rows : List (List ℕ) → List (Entry ℕ) → List QueryData → ℕ → List Budget → List ℕ → List RunLine
search_rows names flat queries k budgets tag =
    flat_map (λ query. query_rows names (plan_of (length names) flat query.terms) query.id k (prefixes_granted budgets (plan_of (length names) flat query.terms)) tag) queries

-- ---- their text

-- the text of some rows: a run line for each
abbrev pub rows_text : List RunLine → List ℕ
rows_text rows = flat_map (λ row. run_line row.id row.name row.tag row.rank row.score) rows

-- a text that stands in a column: UTF-8 of at least one byte, without a blank or an end of line
pub record IsColumn (text : List ℕ) : Type 0 where
  pub utf8 : IsText text
  pub some : 1 ≤ length text
  pub plain : All (λ b. (b ≢ 9) × (b ≢ 10) × (b ≢ 32)) text

-- the last column, whose end is no carriage return either
pub record IsLastColumn (text : List ℕ) : Type 0 where
  pub column : IsColumn text
  pub plain : All (λ b. b ≢ 13) text

-- a row whose text is read as the row: its texts are columns, and its numbers have 64 bits
pub record IsPrintable (row : RunLine) : Type 0 where
  pub id : IsColumn row.id
  pub name : IsColumn row.name
  pub rank : row.rank < 2 ^ 64
  pub score : row.score < 2 ^ 64
  pub tag : IsLastColumn row.tag
