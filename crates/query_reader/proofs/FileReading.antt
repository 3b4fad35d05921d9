-- The queries of a file, line by line.
use Rattle.shared_lemmas.proofs.Common.{◌≡◌, ℕ, ◌<◌, ◌≤◌, ◌^◌, Bool, true, false, cond, List, [], ◌∷◌, ◌++◌, length, map, refl, ap, sym, subst, ◌∙◌, arith, append_assoc, ltb-true, ltb-false, map-append, Result, Ok, Err, nat_lt, filter, AllByRecursion}
use Rattle.std.proofs.lemmas.List.{append-nil}
use Rattle.jass_base.specs.declared.query.Query.{Query}
use Rattle.text_lines.specs.Lines.{LineData}
use Rattle.query_reader.specs.declared.mode.Mode.{Mode}
use Rattle.query_reader.specs.declared.refusal.QueryWhy.TheVariants.{FileLong}
use Rattle.query_reader.specs.declared.refusal.QueryRefusal.{QueryRefusal}
use Rattle.query_reader.specs.declared.refusal.LineFault.{LineFault}
use Rattle.query_reader.specs.declared.refusal.LineFault.TheVariants.{Refused, NoMemory}
use Rattle.query_reader.specs.Texts.{has_items}
use Rattle.query_reader.specs.Refusals.{◌>>=◌, at_line, Fails}
use Rattle.query_reader.specs.Private.Lines.{LineFails, fault_at}
use Rattle.query_reader.specs.Queries.{QueryData, query_data, query_lines}
use Rattle.query_reader.specs.Reading.{read_line, read_lines, read_query_file}

pub judged-file : (bytes : List ℕ) (mode : Mode) (terms : List (List ℕ)) (long : Bool) → nat_lt (2 ^ 28) (length bytes) ≡ long
    → read_query_file bytes mode terms ≡ cond long (Err (record { line = 0; why = FileLong })) (read_lines mode terms (query_lines bytes))
unfolding read_query_file
judged-file bytes mode terms long is = ap (λ (b : Bool). cond b (let r : Result (List QueryData) QueryRefusal = Err (record { line = 0; why = FileLong }) in r) (read_lines mode terms (query_lines bytes))) is

pub long-file : (bytes : List ℕ) (mode : Mode) (terms : List (List ℕ)) → 2 ^ 28 < length bytes → read_query_file bytes mode terms ≡ Err (record { line = 0; why = FileLong })
long-file bytes mode terms more = judged-file bytes mode terms true (here (nat_lt (2 ^ 28) (length bytes)) refl)
  where
    here : (b : Bool) → nat_lt (2 ^ 28) (length bytes) ≡ b → b ≡ true
    here true e = refl
    here false e = absurd (omega (arith, more, ltb-false (2 ^ 28) (length bytes) e))

pub short-file : (bytes : List ℕ) (mode : Mode) (terms : List (List ℕ)) → length bytes ≤ 2 ^ 28 → read_query_file bytes mode terms ≡ read_lines mode terms (query_lines bytes)
short-file bytes mode terms few = judged-file bytes mode terms false (here (nat_lt (2 ^ 28) (length bytes)) refl)
  where
    here : (b : Bool) → nat_lt (2 ^ 28) (length bytes) ≡ b → b ≡ false
    here true e = absurd (omega (arith, few, ltb-true (2 ^ 28) (length bytes) e))
    here false e = refl

-- queries before those that are read
abbrev pub with_front : List QueryData → Result (List QueryData) QueryRefusal → Result (List QueryData) QueryRefusal
with_front queries read = read >>= λ later. Ok (queries ++ later)

-- lines that have bytes
abbrev pub with_bytes : List LineData → List LineData
with_bytes lines = filter (λ line. has_items line.bytes) lines

no-front : (read : Result (List QueryData) QueryRefusal) → with_front [] read ≡ read
no-front (Ok queries) = refl
no-front (Err refusal) = refl

pub at-start : (bytes : List ℕ) (mode : Mode) (terms : List (List ℕ)) (lines : List LineData) → length bytes ≤ 2 ^ 28 → with_bytes lines ≡ query_lines bytes → with_front [] (read_lines mode terms (with_bytes lines)) ≡ read_query_file bytes mode terms
at-start bytes mode terms lines few same =
    no-front (read_lines mode terms (with_bytes lines)) ∙ ap (read_lines mode terms) same ∙ sym (short-file bytes mode terms few)

pub one-line : (mode : Mode) (terms : List (List ℕ)) (line : LineData) (lines : List LineData)
    → read_lines mode terms (line ∷ lines) ≡ (at_line line.number (read_line mode terms line.bytes) >>= λ query. read_lines mode terms lines >>= λ queries. Ok (query ∷ queries))
unfolding read_lines
one-line mode terms line lines = refl

pub no-line : (mode : Mode) (terms : List (List ℕ)) → read_lines mode terms [] ≡ Ok []
unfolding read_lines
no-line mode terms = refl

kept : (lines rest : List LineData) (line : LineData) → lines ≡ line ∷ rest → ¬ (length line.bytes ≡ 0) → with_bytes lines ≡ line ∷ with_bytes rest
kept lines rest line is some = ap with_bytes is ∙ ap (λ (b : Bool). cond b (line ∷ with_bytes rest) (with_bytes rest)) (there line.bytes some)
  where
    there : (bytes : List ℕ) → ¬ (length bytes ≡ 0) → has_items bytes ≡ true
    there [] e = absurd (e refl)
    there (b ∷ bs) e = refl

more-front : (queries : List QueryData) (query : QueryData) (read : Result (List QueryData) QueryRefusal) → with_front (queries ++ query ∷ []) read ≡ with_front queries (read >>= λ later. Ok (query ∷ later))
more-front queries query (Ok later) = ap (λ qs. let r : Result (List QueryData) QueryRefusal = Ok qs in r) (append_assoc queries (query ∷ []) later)
more-front queries query (Err refusal) = refl

-- a line that is a query
pub line-read : (mode : Mode) (terms : List (List ℕ)) (queries : List Query) (query : Query) (all : List Query) (lines rest : List LineData) (line : LineData) → lines ≡ line ∷ rest → ¬ (length line.bytes ≡ 0)
    → read_line mode terms line.bytes ≡ Ok (query_data query) → all ≡ queries ++ query ∷ []
    → with_front (map query_data all) (read_lines mode terms (with_bytes rest)) ≡ with_front (map query_data queries) (read_lines mode terms (with_bytes lines))
line-read mode terms queries query all lines rest line is some good all_is =
    ap (λ qs. with_front qs (read_lines mode terms (with_bytes rest))) (ap (map query_data) all_is ∙ map-append query_data queries (query ∷ []))
    ∙ more-front (map query_data queries) (query_data query) (read_lines mode terms (with_bytes rest)) ∙ sym (ap (with_front (map query_data queries))
    (ap (read_lines mode terms) (kept lines rest line is some) ∙ one-line mode terms line (with_bytes rest)
    ∙ ap (λ r. at_line line.number r >>= λ q. read_lines mode terms (with_bytes rest) >>= λ qs. Ok (q ∷ qs)) good))

-- a line that is none
pub line-refused : (mode : Mode) (terms : List (List ℕ)) (queries : List QueryData) (lines rest : List LineData) (line : LineData) (fault : LineFault) → lines ≡ line ∷ rest → ¬ (length line.bytes ≡ 0)
    → LineFails fault (read_line mode terms line.bytes) → Fails (fault_at line.number fault) (with_front queries (read_lines mode terms (with_bytes lines)))
line-refused mode terms queries lines rest line (Refused why) is some bad = ap (with_front queries)
    (ap (read_lines mode terms) (kept lines rest line is some) ∙ one-line mode terms line (with_bytes rest)
    ∙ ap (λ r. at_line line.number r >>= λ q. read_lines mode terms (with_bytes rest) >>= λ qs. Ok (q ∷ qs)) bad)
line-refused mode terms queries lines rest line NoMemory is some bad = tt

-- no line is left
pub at-end : (mode : Mode) (terms : List (List ℕ)) (queries : List QueryData) (lines : List LineData) → lines ≡ [] → with_front queries (read_lines mode terms (with_bytes lines)) ≡ Ok queries
at-end mode terms queries lines is =
    ap (λ ls. with_front queries (read_lines mode terms (with_bytes ls))) is ∙ ap (with_front queries) (no-line mode terms) ∙ ap (λ qs. let r : Result (List QueryData) QueryRefusal = Ok qs in r) (append-nil queries)

pub all-more : {A : Type 0} (P : A → Type 0) (xs : List A) (x : A) (all : List A) → all ≡ xs ++ x ∷ [] → AllByRecursion P xs → P x → AllByRecursion P all
all-more {A = A} P xs x all is each last = subst (AllByRecursion P) (sym is) (behind xs each)
  where
    behind : (ys : List A) → AllByRecursion P ys → AllByRecursion P (ys ++ x ∷ [])
    behind [] each = (last, tt)
    behind (y ∷ ys) each = (each.0, behind ys each.1)
