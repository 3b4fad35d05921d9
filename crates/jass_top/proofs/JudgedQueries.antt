-- What a query file is judged to be, from what reading it gave.
use Rattle.shared_lemmas.proofs.Common.{◌≡◌, ◌≢◌, ◌≤◌, ◌<◌, ℕ, List, [], ◌∷◌, length, map, take, Bool, true, false, nat_lt, Option, Some, None, Result, Ok, Err, refl, sym, ap, subst, ◌∙◌, inl, inr, arith, nat_tests, take_all, find}
use Rattle.std.proofs.Common.{length-take}
use Rattle.jass_top.proofs.Below.{Query, Files, QueryData, Mode, QueryRefusal}
use Rattle.text_lines.specs.Lines.{LineData}
use Rattle.query_reader.specs.Queries as reader
use Rattle.query_reader.specs.Reading.{read_query_file}
use Rattle.query_reader.specs.Refusals.{number_of}
use Rattle.jass_top.specs.declared.stop.Place.{Place}
use Rattle.jass_top.specs.declared.stop.Place.TheVariants.{Line}
use Rattle.jass_top.specs.declared.stop.Stop.{Stop}
use Rattle.jass_top.specs.IndexJudging.{judge_index}
use Rattle.jass_top.specs.Judging.{Judged, Accepted, Missing, Refuses, Untold, Shows, behind, judge_content}
use Rattle.jass_words.specs.declared.until.Until.{Until}
use Rattle.jass_words.specs.declared.until.Until.TheVariants as untils
use Rattle.jass_top.specs.QueryJudging.{IsRefusedQuery, LineQuery, has_many, in_lines, judge_few, judge_queries, judge_queries_until, judged_queries, plain_query, refused_at, with_lines, without_lines}
use Rattle.jass_top.specs.Private.Causes.{Unheld, Unread}
use Rattle.jass_top.specs.Private.Inputs.{AcceptsSuch, HasInput}
use Rattle.jass_top.specs.Private.SearchRuns.{asked_of}
use Rattle.jass_top.proofs.Behind.{shown_then, unheld_first, unheld_then}
use Rattle.jass_top.proofs.JudgedFiles.{index_told}

-- a front that is too long is refused as the whole file is
pub front_judged : (name : List ℕ) (mode : Mode) (terms : List (List ℕ)) (content : List ℕ) → judge_queries name mode terms (take 268435457 content) ≡ judge_queries name mode terms content
unfolding judge_queries read_query_file
front_judged name mode terms content = at (nat_lt 268435456 (length content)) refl
  where
    at : (b : Bool) → nat_lt 268435456 (length content) ≡ b → judge_queries name mode terms (take 268435457 content) ≡ judge_queries name mode terms content
    at true is =
        let long : 268435456 < length content = grind (arith, nat_tests, is) in
        let front : nat_lt 268435456 (length (take 268435457 content)) ≡ true = grind (arith, nat_tests, long, length-take 268435457 content) in
        rw (front, is) refl
    at false is =
        let fits : length content ≤ 268435457 = grind (arith, nat_tests, is) in
        ap (judge_queries name mode terms) (take_all 268435457 content fits)

-- ---- lines

-- the law of query files
abbrev pub HoldQueries : Type 0
HoldQueries = (bytes : List ℕ) (mode : Mode) (terms : List (List ℕ)) (asked : List reader.QueryData) → read_query_file bytes mode terms ≡ Ok asked → reader.IsQueryFile bytes mode terms asked

-- queries stay as they are where there is one in each line
same_queries : (mode : Mode) (terms : List (List ℕ)) (lines : List LineData) (asked : List reader.QueryData) → reader.AreQueryLines mode terms lines asked → without_lines (in_lines lines (map plain_query asked)) ≡ map plain_query asked
same_queries mode terms [] [] are = refl
same_queries mode terms [] (query ∷ asked) are = absurd are
same_queries mode terms (line ∷ lines) [] are = absurd are
same_queries mode terms (line ∷ lines) (query ∷ asked) are = ap (λ (queries : List QueryData). plain_query query ∷ queries) (same_queries mode terms lines asked are.1)

-- the queries that were read, as plain data
plain_queries : (queries : List Query) → map plain_query (map reader.query_data queries) ≡ asked_of queries
plain_queries [] = refl
plain_queries (query ∷ queries) = ap (λ (asked : List QueryData). record { id = query.id; terms = query.terms; unknown = query.unknown } ∷ asked) (plain_queries queries)

-- ---- from what reading a content gave

pub queries_read : HoldQueries → (name bytes : List ℕ) (mode : Mode) (terms : List (List ℕ)) (queries : List Query) → read_query_file bytes mode terms ≡ Ok (map reader.query_data queries)
    → HasInput (judge_queries name mode terms bytes) (λ lined. (lined ≡ with_lines bytes (asked_of queries)) × (without_lines lined ≡ asked_of queries))
unfolding judge_queries
queries_read law name bytes mode terms queries read =
    let asked : List reader.QueryData = map reader.query_data queries in
    let holds : reader.IsQueryFile bytes mode terms asked = law bytes mode terms asked read in
    record {
      input = with_lines bytes (map plain_query asked);
      accepted = inr (ap (judged_queries name bytes) read);
      holds = (ap (with_lines bytes) (plain_queries queries), same_queries mode terms (reader.query_lines bytes) asked holds.lines ∙ plain_queries queries);
    }

pub refusal_read : (name bytes : List ℕ) (mode : Mode) (terms : List (List ℕ)) (refusal : QueryRefusal) (number : ℕ) → read_query_file bytes mode terms ≡ Err refusal → number ≡ number_of refusal.why
    → Shows (judge_queries name mode terms bytes) (Refuses name number (Line refusal.line))
unfolding judge_queries
refusal_read name bytes mode terms refusal number read numbered = inr (ap (judged_queries name bytes) read ∙ ap (λ (n : ℕ). Refuses name n (Line refusal.line)) (sym numbered))

-- without their lines
pub as_asked : {judged : Judged (List LineQuery)} {lines : List LineQuery} {queries : List QueryData} → HasInput judged (λ lined. (lined ≡ lines) × (without_lines lined ≡ queries)) → HasInput judged (λ lined. without_lines lined ≡ queries)
as_asked had = record { input = had.input; accepted = had.accepted; holds = had.holds.1 }

-- ---- where queries are searched so far

front_judged_until : (until : Until) (name : List ℕ) (mode : Mode) (terms : List (List ℕ)) (content : List ℕ) → judge_queries_until until name mode terms (take 268435457 content) ≡ judge_queries_until until name mode terms content
front_judged_until untils.Budget name mode terms content = front_judged name mode terms content
front_judged_until untils.Final name mode terms content = ap (λ (j : Judged (List LineQuery)). behind j (judge_few name)) (front_judged name mode terms content)

module _ (name bytes : List ℕ) (mode : Mode) (terms : List (List ℕ)) (queries : List Query) (had : HasInput (judge_queries name mode terms bytes) (λ lined. (lined ≡ with_lines bytes (asked_of queries)) × (without_lines lined ≡ asked_of queries))) where
  -- none has many terms
  pub few_had : find has_many (with_lines bytes (asked_of queries)) ≡ None → HasInput (judge_queries_until untils.Final name mode terms bytes) (λ lined. without_lines lined ≡ asked_of queries)
  few_had none = record {
    input = had.input;
    accepted = shown_then (judge_queries name mode terms bytes) had.input (judge_few name) (Accepted had.input) had.accepted
        (inr (ap (refused_at name had.input) (ap (find has_many) had.holds.0 ∙ none)));
    holds = had.holds.1;
  }

  -- the first that has
  pub many_had : (asked : LineQuery) → find has_many (with_lines bytes (asked_of queries)) ≡ Some asked → Shows (judge_queries_until untils.Final name mode terms bytes) (Refuses name 56 (Line asked.line))
  many_had asked some = shown_then (judge_queries name mode terms bytes) had.input (judge_few name) (Refuses name 56 (Line asked.line)) had.accepted
      (inr (ap (refused_at name had.input) (ap (find has_many) had.holds.0 ∙ some)))

-- what wasn't had wasn't had so far either
pub unheld_until : (until : Until) (name bytes : List ℕ) (mode : Mode) (terms : List (List ℕ)) (stop : Stop) → Unheld (name ∷ []) (judge_queries name mode terms bytes) stop → Unheld (name ∷ []) (judge_queries_until until name mode terms bytes) stop
unheld_until untils.Budget name bytes mode terms stop why = why
unheld_until untils.Final name bytes mode terms stop why = unheld_first (name ∷ []) (judge_queries name mode terms bytes) (judge_few name) stop why

-- ---- from what reading the front of a content gave

module _ (told : Option Files) (name bytes : List ℕ) (mode : Mode) (until : Until) (terms : List (List ℕ)) where
  abbrev judge : List ℕ → Judged (List LineQuery)
  judge content = judge_queries_until until name mode terms content

  whole : (content : List ℕ) → bytes ≡ take 268435457 content → judge bytes ≡ judge content
  whole content front = ap judge front ∙ front_judged_until until name mode terms content

  pub queries_had : (P : List LineQuery → Type 0) → AcceptsSuch (judge_content name told) (λ content. bytes ≡ take 268435457 content) → HasInput (judge bytes) P
      → HasInput (behind (judge_content name told) judge) P
  queries_had P (inl untold) had = record { input = had.input; accepted = inl (ap (λ j. behind j judge) untold); holds = had.holds }
  queries_had P (inr (content, there, front)) had = record {
    input = had.input;
    accepted = shown_then (judge_content name told) content judge (Accepted had.input) (inr there) (subst (λ (j : Judged (List LineQuery)). Shows j (Accepted had.input)) (whole content front) had.accepted);
    holds = had.holds;
  }

  pub queries_unheld : (before after : ℕ) (stop : Stop) → AcceptsSuch (judge_content name told) (λ content. bytes ≡ take 268435457 content) → Unheld (name ∷ []) (judge bytes) stop
      → Unread (name ∷ []) (behind (judge_content name told) judge) before after stop
  queries_unheld before after stop (inl untold) why = unheld_then (name ∷ []) (judge_content name told) bytes judge before after stop (inl untold) why
  queries_unheld before after stop (inr (content, there, front)) why =
      unheld_then (name ∷ []) (judge_content name told) content judge before after stop (inr there) (subst (λ (j : Judged (List LineQuery)). Unheld (name ∷ []) j stop) (whole content front) why)

-- where the index is untold, so is the content
pub untold_too : (index name : List ℕ) (told : Option Files) → judge_index index told ≡ Untold → judge_content name told ≡ Untold
unfolding judge_content
untold_too index name None untold = refl
untold_too index name (Some files) untold = absurd (index_told index files untold)

-- ---- what is accepted holds its queries

pub queries_found : HoldQueries → (name : List ℕ) (mode : Mode) (terms : List (List ℕ)) (content : List ℕ) (queries : List LineQuery) → judge_queries name mode terms content ≡ Accepted queries
    → (asked : List reader.QueryData) × reader.IsQueryFile content mode terms asked × (queries ≡ with_lines content (map plain_query asked)) × (without_lines queries ≡ map plain_query asked)
unfolding judge_queries
queries_found law name mode terms content queries is = at (read_query_file content mode terms) refl is
  where
    at : (result : Result (List reader.QueryData) QueryRefusal) → read_query_file content mode terms ≡ result → judged_queries name content result ≡ Accepted queries
        → (asked : List reader.QueryData) × reader.IsQueryFile content mode terms asked × (queries ≡ with_lines content (map plain_query asked)) × (without_lines queries ≡ map plain_query asked)
    at (Ok asked) read is =
        let lined : queries ≡ with_lines content (map plain_query asked) = cc in
        let holds : reader.IsQueryFile content mode terms asked = law content mode terms asked read in
        (asked, holds, lined, ap without_lines lined ∙ same_queries mode terms (reader.query_lines content) asked holds.lines)
    at (Err e) read is = cc

pub queries_only : ((bytes : List ℕ) (mode : Mode) (terms : List (List ℕ)) (asked : List reader.QueryData) → reader.IsQueryFile bytes mode terms asked → read_query_file bytes mode terms ≡ Ok asked)
    → (name : List ℕ) (mode : Mode) (terms : List (List ℕ)) (content : List ℕ) (asked : List reader.QueryData) → reader.IsQueryFile content mode terms asked
    → judge_queries name mode terms content ≡ Accepted (with_lines content (map plain_query asked))
unfolding judge_queries
queries_only law name mode terms content asked is = ap (judged_queries name content) (law content mode terms asked is)

pub queries_told : (name : List ℕ) (mode : Mode) (terms : List (List ℕ)) (content : List ℕ) → judge_queries name mode terms content ≢ Untold
unfolding judge_queries
queries_told name mode terms content is = at (read_query_file content mode terms) is
  where
    at : (result : Result (List reader.QueryData) QueryRefusal) → judged_queries name content result ≢ Untold
    at (Ok asked) is = cc
    at (Err e) is = cc

pub queries_there : (name other : List ℕ) (mode : Mode) (terms : List (List ℕ)) (content : List ℕ) → judge_queries name mode terms content ≢ Missing other
unfolding judge_queries
queries_there name other mode terms content is = at (read_query_file content mode terms) is
  where
    at : (result : Result (List reader.QueryData) QueryRefusal) → judged_queries name content result ≢ Missing other
    at (Ok asked) is = cc
    at (Err e) is = cc

pub queries_refused : (name other : List ℕ) (mode : Mode) (terms : List (List ℕ)) (content : List ℕ) (number : ℕ) (place : Place) → judge_queries name mode terms content ≡ Refuses other number place
    → (other ≡ name) × IsRefusedQuery content mode terms number place
unfolding judge_queries
queries_refused name other mode terms content number place is = at (read_query_file content mode terms) refl is
  where
    at : (result : Result (List reader.QueryData) QueryRefusal) → read_query_file content mode terms ≡ result → judged_queries name content result ≡ Refuses other number place → (other ≡ name) × IsRefusedQuery content mode terms number place
    at (Ok asked) read is = cc
    at (Err e) read is =
        let same : other ≡ name = cc in
        let numbered : number ≡ number_of e.why = cc in
        let placed : place ≡ Line e.line = cc in
        (same, record { refusal = e; first = read; numbered = numbered; placed = placed })
