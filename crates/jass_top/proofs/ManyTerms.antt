-- The first query with many terms, line by line.
use Rattle.shared_lemmas.proofs.Common.{◌≡◌, ◌<◌, ◌≤◌, ◌+◌, ℕ, zero, suc, Bool, true, false, cond, nat_lt, List, [], ◌∷◌, ◌++◌, length, drop, filter, Option, Some, None, refl, sym, ap, subst, ◌∙◌, arith, find, get_or, ◌==◌, nat_tests, AllByRecursion, option_map}
use Rattle.jass_top.proofs.Below.{Query, QueryData, query_data}
use Rattle.text_lines.specs.Lines.{LineData}
use Rattle.query_reader.specs.Texts.{has_items}
use Rattle.jass_words.specs.declared.until.Until.{Until}
use Rattle.jass_words.specs.declared.until.Until.TheVariants as untils
use Rattle.jass_top.proofs.Below.{Mode}
use Rattle.jass_top.specs.declared.stop.Place.{Place}
use Rattle.jass_top.specs.declared.stop.Place.TheVariants.{Line}
use Rattle.jass_top.specs.Judging.{Accepted, Judged, Refuses, behind}
use Rattle.jass_top.specs.QueryJudging.{LineQuery, has_many, in_lines, judge_few, judge_queries, judge_queries_until, refused_at, without_lines}
use Rattle.jass_top.proofs.Behind.{behind_found}
use Rattle.jass_top.specs.Private.SearchRuns.{MayStop, asked_of}

-- among these lines, of which those that have bytes hold the queries
abbrev pub first_many : List LineData → List QueryData → Option LineQuery
first_many lines queries = find has_many (in_lines (filter (λ line. has_items line.bytes) lines) queries)

-- the first line's query, where this line has bytes
abbrev first_of : LineData → List LineData → List QueryData → Option LineQuery
first_of line lines queries = find has_many (in_lines (line ∷ filter (λ l. has_items l.bytes) lines) queries)

with_items : (line : LineData) (lines : List LineData) (queries : List QueryData) → has_items line.bytes ≡ true → first_many (line ∷ lines) queries ≡ first_of line lines queries
with_items line lines queries is = rw is refl

pub without_items : (line : LineData) (lines : List LineData) (queries : List QueryData) → has_items line.bytes ≡ false → first_many (line ∷ lines) queries ≡ first_many lines queries
without_items line lines queries is = rw is refl

pub no_query : (line : LineData) (lines : List LineData) (queries : List QueryData) → has_items line.bytes ≡ true → queries ≡ [] → first_many (line ∷ lines) queries ≡ None
no_query line lines queries is none = with_items line lines queries is ∙ ap (first_of line lines) none

pub many : (line : LineData) (lines : List LineData) (query : QueryData) (queries rest : List QueryData) → has_items line.bytes ≡ true → queries ≡ query ∷ rest → nat_lt 64 (length query.terms) ≡ true
    → first_many (line ∷ lines) queries ≡ Some (record { line = line.number; query = query })
many line lines query queries rest is first long = with_items line lines queries is ∙ ap (first_of line lines) first
    ∙ ap (λ (b : Bool). cond b (Some (record { line = line.number; query = query })) (find has_many (in_lines (filter (λ l. has_items l.bytes) lines) rest))) long

pub few : (line : LineData) (lines : List LineData) (query : QueryData) (queries rest : List QueryData) → has_items line.bytes ≡ true → queries ≡ query ∷ rest → nat_lt 64 (length query.terms) ≡ false
    → first_many (line ∷ lines) queries ≡ first_many lines rest
few line lines query queries rest is first short = with_items line lines queries is ∙ ap (first_of line lines) first
    ∙ ap (λ (b : Bool). cond b (Some (record { line = line.number; query = query })) (find has_many (in_lines (filter (λ l. has_items l.bytes) lines) rest))) short

pub no_lines : (queries : List QueryData) → first_many [] queries ≡ None
no_lines [] = refl
no_lines (query ∷ queries) = refl

-- the query at a place
query_behind : (queries : List Query) (place : ℕ) (d query : Query) → place < length queries → query ≡ get_or queries place d → drop place (asked_of queries) ≡ query_data query ∷ drop (suc place) (asked_of queries)
query_behind [] place d query inside is = absurd (omega (arith, inside))
query_behind (q ∷ queries) zero d query inside is = ap (λ (x : Query). query_data x ∷ asked_of queries) (sym is)
query_behind (q ∷ queries) (suc place) d query inside is = query_behind queries place d query (omega (arith, inside)) is

pub query_at : (queries : List Query) (place : ℕ) (query : Query) → place < length queries → query ≡ get_or queries place query → drop place (asked_of queries) ≡ query_data query ∷ drop (place + 1) (asked_of queries)
query_at queries place query inside is =
    let next : suc place ≡ place + 1 = omega arith in
    query_behind queries place query query inside is ∙ ap (λ (n : ℕ). query_data query ∷ drop n (asked_of queries)) next

-- a line has bytes
pub some_items : (bytes : List ℕ) (empty : Bool) → empty ≡ (length bytes == 0) → empty ≡ false → has_items bytes ≡ true
some_items [] empty is none = cc
some_items (b ∷ bytes) empty is none = refl

-- ---- none has many terms

none_many : (lined : List LineQuery) → find has_many lined ≡ None → AllByRecursion (λ (q : QueryData). length q.terms ≤ 64) (without_lines lined)
none_many [] none = tt
none_many (asked ∷ lined) none = at (has_many asked) refl none (none_many lined)
  where
    at : (b : Bool) → nat_lt 64 (length asked.query.terms) ≡ b → cond b (Some asked) (find has_many lined) ≡ None → (find has_many lined ≡ None → AllByRecursion (λ (q : QueryData). length q.terms ≤ 64) (without_lines lined))
        → AllByRecursion (λ (q : QueryData). length q.terms ≤ 64) (without_lines (asked ∷ lined))
    at true is none later = cc
    at false is none later = (grind (arith, nat_tests, is), later none)

may_stop : (until : Until) (queries : List Query) → AllByRecursion (λ (q : QueryData). length q.terms ≤ 64) (asked_of queries) → AllByRecursion (MayStop until) queries
may_stop until [] few = tt
may_stop until (query ∷ queries) few = ((λ far. few.0), may_stop until queries few.1)

pub none_found : (o : Option LineQuery) → None ≡ option_map (λ (asked : LineQuery). asked.line) o → o ≡ None
none_found None is = refl
none_found (Some asked) is = cc

pub one_found : (o : Option LineQuery) (line : ℕ) → Some line ≡ option_map (λ (asked : LineQuery). asked.line) o → (asked : LineQuery) × (o ≡ Some asked) × (line ≡ asked.line)
one_found None line is = cc
one_found (Some asked) line is = (asked, refl, (let same : line ≡ asked.line = cc in same))

pub all_may_stop : (until : Until) (queries : List Query) (lined lines : List LineQuery) → (lined ≡ lines) × (without_lines lined ≡ asked_of queries) → find has_many lines ≡ None → AllByRecursion (MayStop until) queries
all_may_stop until queries lined lines are none = may_stop until queries (subst (AllByRecursion (λ (q : QueryData). length q.terms ≤ 64)) are.1 (none_many lined (ap (find has_many) are.0 ∙ none)))

pub all_may_stop_within : (queries : List Query) → AllByRecursion (MayStop untils.Budget) queries
all_may_stop_within [] = tt
all_may_stop_within (query ∷ queries) = ((λ far. cc), all_may_stop_within queries)

-- ---- what a file is judged to be

few_is : (name : List ℕ) (queries lined : List LineQuery) (o : Option LineQuery) → refused_at name queries o ≡ Accepted lined → (o ≡ None) × (queries ≡ lined)
few_is name queries lined None is = (refl, (let same : queries ≡ lined = cc in same))
few_is name queries lined (Some asked) is = cc

pub accepted_within : (until : Until) (name : List ℕ) (mode : Mode) (terms : List (List ℕ)) (content : List ℕ) (lined : List LineQuery) → judge_queries_until until name mode terms content ≡ Accepted lined → judge_queries name mode terms content ≡ Accepted lined
accepted_within untils.Budget name mode terms content lined is = is
accepted_within untils.Final name mode terms content lined is =
    let (queries, read, few) = behind_found (judge_queries name mode terms content) (judge_few name) lined is in
    read ∙ ap (λ (qs : List LineQuery). (let j : Judged (List LineQuery) = Accepted qs in j)) (few_is name queries lined (find has_many queries) few).1

abbrev IsFew : LineQuery → Type 0
IsFew asked = length asked.query.terms ≤ 64

are_few : (lined : List LineQuery) → find has_many lined ≡ None → AllByRecursion IsFew lined
are_few [] none = tt
are_few (asked ∷ lined) none = at (has_many asked) refl none (are_few lined)
  where
    at : (b : Bool) → nat_lt 64 (length asked.query.terms) ≡ b → cond b (Some asked) (find has_many lined) ≡ None → (find has_many lined ≡ None → AllByRecursion IsFew lined) → AllByRecursion IsFew (asked ∷ lined)
    at true is none later = cc
    at false is none later = (grind (arith, nat_tests, is), later none)

find_none : (lined : List LineQuery) → AllByRecursion IsFew lined → find has_many lined ≡ None
find_none [] few = refl
find_none (asked ∷ lined) few =
    let short : nat_lt 64 (length asked.query.terms) ≡ false = grind (arith, nat_tests, few.0) in
    ap (λ (b : Bool). cond b (Some asked) (find has_many lined)) short ∙ find_none lined few.1

find_first : (before after : List LineQuery) (asked : LineQuery) → AllByRecursion IsFew before → 64 < length asked.query.terms → find has_many (before ++ asked ∷ after) ≡ Some asked
find_first [] after asked few long =
    let is : nat_lt 64 (length asked.query.terms) ≡ true = grind (arith, nat_tests, long) in
    ap (λ (b : Bool). cond b (Some asked) (find has_many after)) is
find_first (other ∷ before) after asked few long =
    let short : nat_lt 64 (length other.query.terms) ≡ false = grind (arith, nat_tests, few.0) in
    ap (λ (b : Bool). cond b (Some other) (find has_many (before ++ asked ∷ after))) short ∙ find_first before after asked few.1 long

module _ (name : List ℕ) (mode : Mode) (terms : List (List ℕ)) (content : List ℕ) where
  pub found_until : (queries : List LineQuery) → judge_queries_until untils.Final name mode terms content ≡ Accepted queries → (judge_queries name mode terms content ≡ Accepted queries) × AllByRecursion IsFew queries
  found_until lined is =
      let (queries, read, few) = behind_found (judge_queries name mode terms content) (judge_few name) lined is in
      let told = few_is name queries lined (find has_many queries) few in
      (accepted_within untils.Final name mode terms content lined is, are_few lined (ap (find has_many) (sym told.1) ∙ told.0))

  pub only_until : (queries : List LineQuery) → judge_queries name mode terms content ≡ Accepted queries → AllByRecursion IsFew queries → judge_queries_until untils.Final name mode terms content ≡ Accepted queries
  only_until queries is few = ap (λ (j : Judged (List LineQuery)). behind j (judge_few name)) is ∙ ap (refused_at name queries) (find_none queries few)

  pub many_until : (before after : List LineQuery) (asked : LineQuery) → judge_queries name mode terms content ≡ Accepted (before ++ asked ∷ after) → AllByRecursion IsFew before → 64 < length asked.query.terms
      → judge_queries_until untils.Final name mode terms content ≡ Refuses name 56 (Line asked.line)
  many_until before after asked is few long =
      ap (λ (j : Judged (List LineQuery)). behind j (judge_few name)) is ∙ ap (refused_at name (before ++ asked ∷ after)) (find_first before after asked few long)

  pub refused_until : (other : List ℕ) (number : ℕ) (at : Place) → judge_queries name mode terms content ≡ Refuses other number at → judge_queries_until untils.Final name mode terms content ≡ Refuses other number at
  refused_until other number at is = ap (λ (j : Judged (List LineQuery)). behind j (judge_few name)) is
