-- Reading a query file from the left, line by line, with the first refusal and its line.
use Rattle.std.specs.Prelude.{ℕ, not, List, [], ◌∷◌, ◌++◌, length, Option, Some, None, Result, Ok, Err, nat_lt, if◌then◌else◌}
use Rattle.std.specs.List.{list_any}
use Rattle.std.specs.Str.{is_utf8}
use Rattle.jass_base.specs.declared.query_term.QueryTerm.{QueryTerm}
use Rattle.text_lines.specs.Lines.{LineData}
use Rattle.query_reader.specs.declared.mode.Mode.{Mode}
use Rattle.query_reader.specs.declared.refusal.QueryWhy.{QueryWhy}
use Rattle.query_reader.specs.declared.refusal.QueryWhy.TheVariants.{Text, NoId, Terms, Times, LineLong, FileLong}
use Rattle.query_reader.specs.declared.refusal.QueryRefusal.{QueryRefusal}
use Rattle.query_reader.specs.Mentions.{Mention, named_of, unknown_of}
use Rattle.query_reader.specs.Texts.{has_items, mentions_of}
use Rattle.query_reader.specs.Refusals.{◌>>=◌, at_line}
use Rattle.query_reader.specs.Queries.{QueryData, id_of, text_of, query_lines}
use Rattle.jass_base.specs.declared.limits.TheConstants.{LONGEST_LINE, LONGEST_QUERY_FILE, MOST_QUERY_TERMS, MOST_TIMES}

-- the limit that named terms break: more than 256 of them, or one named more than 255 times
abbrev pub broken_limit : List QueryTerm → Option QueryWhy
broken_limit named =
    if nat_lt MOST_QUERY_TERMS (length named) then Some Terms
    else (if list_any (λ n. nat_lt MOST_TIMES n.times) named then Some Times
    else None)

abbrev pub first_of : Option QueryWhy → Option QueryWhy → Option QueryWhy
first_of (Some why) later = Some why
first_of None later = later

-- the first limit that breaks as mentions join those before them, one after the other
unfoldable pub first_broken : List (List ℕ) → List Mention → List Mention → Option QueryWhy
first_broken terms before [] = None
first_broken terms before (m ∷ mentions) = first_of (broken_limit (named_of terms (before ++ m ∷ []))) (first_broken terms (before ++ m ∷ []) mentions)

abbrev pub unless : {A : Type 0} → Option QueryWhy → A → Result A QueryWhy
unless (Some why) x = Err why
unless None x = Ok x

-- the query of an id and mentions
unfoldable pub read_mentions : List (List ℕ) → List ℕ → List Mention → Result QueryData QueryWhy
read_mentions terms id mentions = unless (first_broken terms [] mentions) (record { id = id; terms = named_of terms mentions; unknown = unknown_of terms mentions })

-- the first check that a line fails before its mentions are read
unfoldable pub line_fault : List ℕ → Option QueryWhy
line_fault line =
    if nat_lt LONGEST_LINE (length line) then Some LineLong
    else (if not (is_utf8 line) then Some Text
    else (if not (has_items (id_of line)) then Some NoId
    else None))

unfoldable pub read_line : Mode → List (List ℕ) → List ℕ → Result QueryData QueryWhy
read_line mode terms line = unless (line_fault line) (mentions_of mode (text_of line)) >>= λ mentions. read_mentions terms (id_of line) mentions

-- the queries of lines
unfoldable pub read_lines : Mode → List (List ℕ) → List LineData → Result (List QueryData) QueryRefusal
read_lines mode terms [] = Ok []
read_lines mode terms (line ∷ lines) =
    at_line line.number (read_line mode terms line.bytes) >>= λ query.
    read_lines mode terms lines >>= λ queries.
    Ok (query ∷ queries)

-- the queries of a file, or its first refusal
unfoldable pub read_query_file : List ℕ → Mode → List (List ℕ) → Result (List QueryData) QueryRefusal
read_query_file bytes mode terms =
    if nat_lt LONGEST_QUERY_FILE (length bytes) then Err (record { line = 0; why = FileLong })
    else read_lines mode terms (query_lines bytes)
