-- What a query is, and which queries a file holds. This project's.
use Rattle.std.specs.Prelude.{ℕ, ◌≡◌, ◌≢◌, ◌≤◌, ⊤, List, [], ◌∷◌, length, filter, All}
use Rattle.std.specs.List.{before_first, position_or_len}
use Rattle.std.specs.Prelude.{drop}
use Rattle.std.specs.Str.{IsUtf8}
use Rattle.jass_base.specs.declared.query_term.QueryTerm.{QueryTerm}
use Rattle.jass_base.specs.declared.query.Query.{Query}
use Rattle.text_lines.specs.Lines.{LineData, lines_of, numbered_from}
use Rattle.query_reader.specs.declared.mode.Mode.{Mode}
use Rattle.query_reader.specs.Mentions.{Mention, named_of, unknown_of}
use Rattle.query_reader.specs.Texts.{has_items, is_blank, mentions_of}
use Rattle.jass_base.specs.declared.limits.TheConstants.{LONGEST_LINE, LONGEST_QUERY_FILE, MOST_QUERY_TERMS, MOST_TIMES}

-- a query as plain data
pub record QueryData : Type 0 where
  pub id : List ℕ
  pub terms : List QueryTerm
  pub unknown : ℕ

abbrev pub query_data : Query → QueryData
query_data query = record { id = query.id; terms = query.terms; unknown = query.unknown }

-- what mentions name among the terms of an index: at most 256 terms, each at most 255 times
pub record IsQuery (terms : List (List ℕ)) (mentions : List Mention) (query : QueryData) : Type 0 where
  pub named : query.terms ≡ named_of terms mentions
  pub unknown : query.unknown ≡ unknown_of terms mentions
  pub few : length query.terms ≤ MOST_QUERY_TERMS
  pub times : All (λ (n : QueryTerm). n.times ≤ MOST_TIMES) query.terms

-- a line's id ends before the first blank, and its text begins there
abbrev pub id_of : List ℕ → List ℕ
id_of line = before_first is_blank line

abbrev pub text_of : List ℕ → List ℕ
text_of line = drop (position_or_len is_blank line) line

-- a line is a query
pub record IsQueryLine (mode : Mode) (terms : List (List ℕ)) (line : List ℕ) (query : QueryData) : Type 0 where
  pub fits : length line ≤ LONGEST_LINE
  pub utf8 : IsUtf8 line
  pub id : query.id ≡ id_of line
  pub begins : query.id ≢ []
  pub mentions : IsQuery terms (mentions_of mode (text_of line)) query

-- the lines of a file that have bytes, each with its number among all lines
abbrev pub query_lines : List ℕ → List LineData
query_lines bytes = filter (λ line. has_items line.bytes) (numbered_from 1 (lines_of bytes))

-- lines are queries, one each
abbrev pub AreQueryLines : Mode → List (List ℕ) → List LineData → List QueryData → Type 0
AreQueryLines mode terms [] [] = ⊤
AreQueryLines mode terms [] (query ∷ queries) = ⊥
AreQueryLines mode terms (line ∷ lines) [] = ⊥
AreQueryLines mode terms (line ∷ lines) (query ∷ queries) = IsQueryLine mode terms line.bytes query × AreQueryLines mode terms lines queries

-- a file holds queries: one in each line that has bytes
pub record IsQueryFile (bytes : List ℕ) (mode : Mode) (terms : List (List ℕ)) (queries : List QueryData) : Type 0 where
  pub fits : length bytes ≤ LONGEST_QUERY_FILE
  pub lines : AreQueryLines mode terms (query_lines bytes) queries
