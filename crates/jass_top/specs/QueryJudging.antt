-- What the content of a query file is judged to be.
use Rattle.std.specs.Prelude.{◌≡◌, ℕ, nat_lt, Bool, List, [], ◌∷◌, length, map, Option, Some, None, Result, Ok, Err}
use Rattle.std.specs.List.{find}
use Rattle.ranking_model.specs.Search.{QueryData}
use Rattle.text_lines.specs.Lines.{LineData}
use Rattle.query_reader.specs.declared.mode.Mode.{Mode}
use Rattle.query_reader.specs.declared.refusal.QueryRefusal.{QueryRefusal}
use Rattle.query_reader.specs.Queries as reader
use Rattle.query_reader.specs.Reading.{read_query_file}
use Rattle.query_reader.specs.Refusals.{number_of}
use Rattle.jass_top.specs.declared.stop.Place.{Place}
use Rattle.jass_top.specs.declared.stop.Place.TheVariants.{Line}
use Rattle.jass_top.specs.Judging.{Judged, Accepted, Refuses, behind}
use Rattle.jass_words.specs.declared.until.Until.{Until}
use Rattle.jass_words.specs.declared.until.Until.TheVariants as untils
use Rattle.jass_words.specs.declared.word_limits.TheConstants.{MOST_FINAL_TERMS}

-- a query, and the number of its line among all lines of its file, from 1 on
pub record LineQuery : Type 0 where
  pub line : ℕ
  pub query : QueryData

abbrev pub without_lines : List LineQuery → List QueryData
without_lines queries = map (λ (q : LineQuery). q.query) queries

-- queries, one in each of some lines
abbrev pub in_lines : List LineData → List QueryData → List LineQuery
in_lines [] queries = []
in_lines (line ∷ lines) [] = []
in_lines (line ∷ lines) (query ∷ queries) = record { line = line.number; query = query } ∷ in_lines lines queries

-- the queries of a content stand in its lines that have bytes
abbrev pub with_lines : List ℕ → List QueryData → List LineQuery
with_lines content queries = in_lines (reader.query_lines content) queries

abbrev pub plain_query : reader.QueryData → QueryData
plain_query query = record { id = query.id; terms = query.terms; unknown = query.unknown }

abbrev pub judged_queries : List ℕ → List ℕ → Result (List reader.QueryData) QueryRefusal → Judged (List LineQuery)
judged_queries name content (Ok queries) = Accepted (with_lines content (map plain_query queries))
judged_queries name content (Err refusal) = Refuses name (number_of refusal.why) (Line refusal.line)

-- the content of a query file of this name over the terms of an index, by its queries or its first refusal
unfoldable pub judge_queries : List ℕ → Mode → List (List ℕ) → List ℕ → Judged (List LineQuery)
judge_queries name mode terms content = judged_queries name content (read_query_file content mode terms)

-- whether a query has more than 64 known terms
abbrev pub has_many : LineQuery → Bool
has_many asked = nat_lt MOST_FINAL_TERMS (length asked.query.terms)

abbrev pub refused_at : List ℕ → List LineQuery → Option LineQuery → Judged (List LineQuery)
refused_at name queries (Some asked) = Refuses name 56 (Line asked.line)
refused_at name queries None = Accepted queries

-- queries of a file of this name that are searched until final: 56 at the line of the first with more than 64 known terms
abbrev pub judge_few : List ℕ → List LineQuery → Judged (List LineQuery)
judge_few name queries = refused_at name queries (find has_many queries)

-- the same content where its queries are searched so far
abbrev pub judge_queries_until : Until → List ℕ → Mode → List (List ℕ) → List ℕ → Judged (List LineQuery)
judge_queries_until untils.Budget name mode terms content = judge_queries name mode terms content
judge_queries_until untils.Final name mode terms content = behind (judge_queries name mode terms content) (judge_few name)

-- the first refusal of a content has this number and place
pub record IsRefusedQuery (content : List ℕ) (mode : Mode) (terms : List (List ℕ)) (number : ℕ) (at : Place) : Type 0 where
  pub refusal : QueryRefusal
  pub first : read_query_file content mode terms ≡ Err refusal
  pub numbered : number ≡ number_of refusal.why
  pub placed : at ≡ Line refusal.line
