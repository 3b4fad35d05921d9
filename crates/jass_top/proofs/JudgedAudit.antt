-- What the inputs of an audit are judged to be, from what opening them gave.
use Rattle.shared_lemmas.proofs.Common.{◌≡◌, ◌≢◌, ◌≤◌, ◌<◌, ◌^◌, ℕ, List, [], ◌∷◌, length, take, Bool, true, false, nat_le, nat_lt, Option, Some, None, Result, Ok, Err, refl, sym, ap, subst, ◌∙◌, ◌⊎◌, inl, inr, arith, nat_tests, take_all, if◌then◌else◌, get}
use Rattle.std.proofs.Common.{IsSomeAnd, length-drop}
use Rattle.shared_lemmas.proofs.Common.{cases_lt}
use Rattle.jass_base.specs.Outside.{AreBytesAt, GivesBytes, OnContent}
use Rattle.jass_top.proofs.Below.{Files, Mode, texts_of}
use Rattle.text_lines.specs.Lines.{LineData, lines_of, numbered_from}
use Rattle.trec_run.specs.declared.run_line.RunLine.{RunLine}
use Rattle.trec_run.specs.declared.run_line.RunWhy.{RunWhy}
use Rattle.trec_run.specs.declared.run_line.RunFault.{RunFault}
use Rattle.trec_run.specs.declared.run_line.RunFault.TheVariants as faults
use Rattle.trec_run.specs.Runs.{IsRun, at_line, number_of, read_line, read_lines, run_of, has_bytes, ◌>>=◌}
use Rattle.jass_top.specs.declared.stop.Place.{Place}
use Rattle.jass_top.specs.declared.stop.Place.TheVariants.{Line}
use Rattle.jass_top.specs.declared.stop.Stop.{Stop}
use Rattle.jass_top.specs.declared.audit.Audited.{Audited}
use Rattle.jass_top.specs.AuditMeaning.{AuditInputs, IsRefusedRun, auditable, judge_audit, judge_audited, judge_run, judged_run}
use Rattle.jass_top.specs.IndexJudging.{judge_index}
use Rattle.jass_top.specs.Judging.{Accepted, Judged, Missing, Refuses, Shows, Untold, behind, judge_content, judged_there}
use Rattle.jass_top.specs.QueryJudging.{judge_queries, without_lines}
use Rattle.jass_top.specs.SearchMeaning.{SearchInputs, judge_search}
use Rattle.jass_top.specs.Private.Audits.{AreAudited}
use Rattle.jass_top.specs.Private.Causes.{Unread}
use Rattle.jass_top.specs.Private.Inputs.{AcceptsSuch, HasInput}
use Rattle.jass_top.specs.Private.SearchRuns.{asked_of}
use Rattle.jass_top.proofs.Asked.{accepted_one}
use Rattle.jass_top.proofs.Behind.{behind_found, behind_told, shown_then, unread_before, unread_behind, unread_first, unread_then}
use Rattle.jass_top.proofs.Judged.{content_found, content_only, content_told}
use Rattle.jass_top.proofs.JudgedFiles.{index_told}
use Rattle.jass_top.proofs.JudgedQueries.{queries_told}

-- ---- sizes

pub short_text : (name content : List ℕ) → length content ≤ 2 ^ 32 → auditable name content ≡ Accepted content
unfolding auditable
short_text name content few = (let is : nat_le (length content) (2 ^ 32) ≡ true = grind (arith, nat_tests, few) in rw is refl)

pub long_text : (name content : List ℕ) → 2 ^ 32 < length content → auditable name content ≡ Refuses name 82 (Line 0)
unfolding auditable
long_text name content long = (let is : nat_le (length content) (2 ^ 32) ≡ false = grind (arith, nat_tests, long) in rw is refl)

pub sized_told : (name content : List ℕ) → auditable name content ≢ Untold
unfolding auditable
sized_told name content is = at (nat_le (length content) (2 ^ 32)) is
  where
    at : (b : Bool) → (if b then Accepted content else Refuses name 82 (Line 0)) ≢ Untold
    at true is = cc
    at false is = cc

sized_found : (name there content : List ℕ) → auditable name there ≡ Accepted content → (there ≡ content) × (length content ≤ 2 ^ 32)
unfolding auditable
sized_found name there content is = at (nat_le (length there) (2 ^ 32)) refl is
  where
    at : (b : Bool) → nat_le (length there) (2 ^ 32) ≡ b → (if b then Accepted there else Refuses name 82 (Line 0)) ≡ Accepted content → (there ≡ content) × (length content ≤ 2 ^ 32)
    at true fits is = (let same : there ≡ content = cc in (same, grind (arith, nat_tests, fits, ap length same)))
    at false long is = cc

-- the same content was accepted twice
module _ (name : List ℕ) (told : Option Files) where
  pub text_refused : AcceptsSuch (judge_content name told) (λ content. true ≡ nat_lt (2 ^ 32) (length content)) → Shows (judge_audited name told) (Refuses name 82 (Line 0))
  text_refused (inl untold) = inl (ap (λ j. behind j (auditable name)) untold)
  text_refused (inr (content, there, long)) = inr (ap (λ j. behind j (auditable name)) there ∙ long_text name content (grind (arith, nat_tests, long)))

  pub text_shown : (row : List ℕ) → AcceptsSuch (judge_content name told) (λ content. false ≡ nat_lt (2 ^ 32) (length content)) → AcceptsSuch (judge_content name told) (λ content. row ≡ take (2 ^ 32) content)
      → Shows (judge_audited name told) (Accepted row)
  text_shown row (inl untold) had = inl (ap (λ j. behind j (auditable name)) untold)
  text_shown row (inr seen) (inl untold) = inl (ap (λ j. behind j (auditable name)) untold)
  text_shown row (inr (content, there, short)) (inr (other, here, front)) =
      let same : content ≡ other = accepted_one content other (sym there ∙ here) in
      let fits : length content ≤ 2 ^ 32 = grind (arith, nat_tests, short) in
      let whole : row ≡ content = front ∙ ap (take (2 ^ 32)) (sym same) ∙ take_all (2 ^ 32) content fits in
      inr (ap (λ j. behind j (auditable name)) there ∙ short_text name content fits ∙ ap (λ (text : List ℕ). Accepted text) (sym whole))

-- a byte was read behind the last that a file may have, or there is none
pub long_or_not : (E : Type 0) (told : Option Files) (name : List ℕ) (count : ℕ) (buf : List ℕ) → 0 < length buf → GivesBytes {E = E} told name (2 ^ 32) (Ok count) buf → OnContent told name (λ content. nat_lt 0 count ≡ nat_lt (2 ^ 32) (length content))
long_or_not E None name count buf one given = tt
long_or_not E (Some files) name count buf one given = at (get files name) given
  where
    at : (o : Option (List ℕ)) → IsSomeAnd o (λ content. AreBytesAt content (2 ^ 32) count buf) → IsSomeAnd o (λ content. nat_lt 0 count ≡ nat_lt (2 ^ 32) (length content))
    at None is = absurd is
    at (Some content) is = by (cases_lt 0 count)
      where
        by : (0 < count) ⊎ (count ≤ 0) → nat_lt 0 count ≡ nat_lt (2 ^ 32) (length content)
        by (inl some) =
            let long : 2 ^ 32 < length content = omega (arith, some, is.within, length-drop (2 ^ 32) content) in
            (let first : nat_lt 0 count ≡ true = grind (arith, nat_tests, some) in first) ∙ sym (let last : nat_lt (2 ^ 32) (length content) ≡ true = grind (arith, nat_tests, long) in last)
        by (inr none) =
            let short : length content ≤ 2 ^ 32 = is.end (omega (arith, none)) one in
            (let first : nat_lt 0 count ≡ false = grind (arith, nat_tests, none) in first) ∙ sym (let last : nat_lt (2 ^ 32) (length content) ≡ false = grind (arith, nat_tests, short) in last)

-- ---- the lines of a run

no_want : (lines : List LineData) → read_lines lines ≢ Err faults.NoMemory
no_want [] is = cc
no_want (line ∷ lines) is = at (has_bytes line.bytes) (read_line line.bytes) (read_lines lines) (no_want lines) is
  where
    at : (b : Bool) (first : Result RunLine RunWhy) (rest : Result (List RunLine) RunFault) → rest ≢ Err faults.NoMemory
        → (if b then (at_line line.number first >>= λ run. rest >>= λ runs. Ok (run ∷ runs)) else rest) ≢ Err faults.NoMemory
    at false first rest never is = never is
    at true (Err why) rest never is = cc
    at true (Ok run) (Ok runs) never is = cc
    at true (Ok run) (Err fault) never is = never is

pub run_wants_none : (text : List ℕ) → run_of text ≢ Err faults.NoMemory
run_wants_none text = no_want (numbered_from 1 (lines_of text))

pub run_told : (name text : List ℕ) → judge_run name text ≢ Untold
unfolding judge_run
run_told name text is = at (run_of text) (run_wants_none text) is
  where
    at : (read : Result (List RunLine) RunFault) → read ≢ Err faults.NoMemory → judged_run name read ≢ Untold
    at (Ok lines) never is = cc
    at (Err (faults.Refused line why)) never is = cc
    at (Err faults.NoMemory) never is = never refl

pub run_read : (name text : List ℕ) (lines : List RunLine) → run_of text ≡ Ok lines → judge_run name text ≡ Accepted lines
unfolding judge_run
run_read name text lines read = ap (judged_run name) read

pub run_refused : (name text : List ℕ) (line number : ℕ) (why : RunWhy) → run_of text ≡ Err (faults.Refused line why) → number ≡ number_of why → Shows (judge_run name text) (Refuses name number (Line line))
unfolding judge_run
run_refused name text line number why read numbered = inr (ap (judged_run name) read ∙ ap (λ (n : ℕ). Refuses name n (Line line)) (sym numbered))

-- ---- what is untold

search_told : (index queries : List ℕ) (mode : Mode) (files : Files) → judge_search index queries mode (Some files) ≢ Untold
search_told index queries mode files =
    behind_told (judge_index index (Some files)) _ (index_told index files) (λ file.
    behind_told (judge_content queries (Some files)) _ (content_told queries files) (λ content.
    behind_told (judge_queries queries mode (texts_of file.index.terms) content) _ (queries_told queries mode (texts_of file.index.terms) content) (λ asked is. cc)))

text_told : (name : List ℕ) (files : Files) → judge_audited name (Some files) ≢ Untold
text_told name files = behind_told (judge_content name (Some files)) (auditable name) (content_told name files) (sized_told name)

lines_told : (name : List ℕ) (files : Files) → behind (judge_audited name (Some files)) (judge_run name) ≢ Untold
lines_told name files = behind_told (judge_audited name (Some files)) (judge_run name) (text_told name files) (run_told name)

text_untold : (name : List ℕ) → judge_audited name None ≡ Untold
unfolding judge_content
text_untold name = refl

-- ---- all inputs

module _ (index queries run reports : List ℕ) (mode : Mode) where
  abbrev pub lines_in : Option Files → Judged (List RunLine)
  lines_in told = behind (judge_audited run told) (judge_run run)

  abbrev pub with_text : SearchInputs → List RunLine → List ℕ → Judged AuditInputs
  with_text asked lines text = Accepted (record { index = asked.index; queries = asked.queries; run = lines; reports = text })

  abbrev pub with_lines : Option Files → SearchInputs → List RunLine → Judged AuditInputs
  with_lines told asked lines = behind (judge_audited reports told) (with_text asked lines)

  abbrev pub with_search : Option Files → SearchInputs → Judged AuditInputs
  with_search told asked = behind (lines_in told) (with_lines told asked)

  untold_lines : (told : Option Files) (asked : SearchInputs) → judge_search index queries mode told ≡ Untold → with_search told asked ≡ Untold
  untold_lines None asked is = ap (λ (j : Judged (List ℕ)). behind (behind j (judge_run run)) (with_lines None asked)) (text_untold run)
  untold_lines (Some files) asked is = absurd (search_told index queries mode files is)

  untold_text : (told : Option Files) (asked : SearchInputs) (lines : List RunLine) → lines_in told ≡ Untold → with_lines told asked lines ≡ Untold
  untold_text None asked lines is = ap (λ (j : Judged (List ℕ)). behind j (with_text asked lines)) (text_untold reports)
  untold_text (Some files) asked lines is = absurd (lines_told run files is)

  module _ (told : Option Files) where
    pub search_unhad : (before after : ℕ) (stop : Stop) → Unread (index ∷ queries ∷ []) (judge_search index queries mode told) before after stop
        → Unread (index ∷ queries ∷ run ∷ reports ∷ []) (judge_audit index queries run reports mode told) before after stop
    search_unhad before after stop why = unread_before (index ∷ queries ∷ []) (run ∷ reports ∷ []) (judge_search index queries mode told) (with_search told) before after stop why

    module _ (P : SearchInputs → Type 0) (asked : HasInput (judge_search index queries mode told) P) (before opened : ℕ) (later : before ≤ opened) where
      behind_search : (mid after : ℕ) (stop : Stop) → opened ≤ mid → Unread (run ∷ reports ∷ []) (with_search told asked.input) mid after stop
          → Unread (index ∷ queries ∷ run ∷ reports ∷ []) (judge_audit index queries run reports mode told) before after stop
      behind_search mid after stop opening why =
          unread_behind (index ∷ queries ∷ []) (run ∷ reports ∷ []) (judge_search index queries mode told) asked.input (with_search told) before mid after stop asked.accepted (untold_lines told asked.input) (omega (arith, later, opening)) why

      pub run_unhad : (after : ℕ) (stop : Stop) → Unread (run ∷ []) (lines_in told) opened after stop
          → Unread (index ∷ queries ∷ run ∷ reports ∷ []) (judge_audit index queries run reports mode told) before after stop
      run_unhad after stop why = behind_search opened after stop (omega arith) (unread_first run (reports ∷ []) (lines_in told) (with_lines told asked.input) opened after stop why)

      pub reports_unhad : (lines : List RunLine) (read after : ℕ) (stop : Stop) → Shows (lines_in told) (Accepted lines) → opened ≤ read → Unread (reports ∷ []) (judge_audited reports told) read after stop
          → Unread (index ∷ queries ∷ run ∷ reports ∷ []) (judge_audit index queries run reports mode told) before after stop
      reports_unhad lines read after stop shows reading why =
          behind_search opened after stop (omega arith) (
          unread_then run (reports ∷ []) (lines_in told) lines (with_lines told asked.input) opened read after stop shows (untold_text told asked.input lines) reading (
          unread_first reports [] (judge_audited reports told) (with_text asked.input lines) read after stop why))

    pub audit_had : (audited : Audited) → HasInput (judge_search index queries mode told) (λ inputs. (inputs.index ≡ audited.index.index) × (without_lines inputs.queries ≡ asked_of audited.queries))
        → Shows (lines_in told) (Accepted audited.run) → Shows (judge_audited reports told) (Accepted audited.reports) → HasInput (judge_audit index queries run reports mode told) (AreAudited audited)
    audit_had audited asked lines text =
        let inputs : AuditInputs = record { index = asked.input.index; queries = asked.input.queries; run = audited.run; reports = audited.reports } in
        record {
          input = inputs;
          accepted = shown_then (judge_search index queries mode told) asked.input (with_search told) (Accepted inputs) asked.accepted (
              shown_then (lines_in told) audited.run (with_lines told asked.input) (Accepted inputs) lines (
              shown_then (judge_audited reports told) audited.reports (with_text asked.input audited.run) (Accepted inputs) text (inr refl)));
          holds = record { index = asked.holds.0; queries = asked.holds.1; run = refl; reports = refl };
        }

-- ---- what is accepted, and what isn't

pub text_found : (name content : List ℕ) (files : Files) → judge_audited name (Some files) ≡ Accepted content → (get files name ≡ Some content) × (length content ≤ 2 ^ 32)
text_found name content files is =
    let (there, found, sized) = behind_found (judge_content name (Some files)) (auditable name) content is in
    let here : get files name ≡ Some there = content_found name files there found in
    let fits = sized_found name there content sized in
    (here ∙ ap Some fits.0, fits.1)

pub text_long : (name content : List ℕ) (files : Files) → get files name ≡ Some content → 2 ^ 32 < length content → judge_audited name (Some files) ≡ Refuses name 82 (Line 0)
text_long name content files there long = ap (λ j. behind j (auditable name)) (content_only name files content there) ∙ long_text name content long

pub text_missed : (name : List ℕ) (files : Files) → get files name ≡ None → judge_audited name (Some files) ≡ Missing name
unfolding judge_content
text_missed name files none = ap (λ o. behind (judged_there name o) (auditable name)) none

pub run_found : ((text : List ℕ) (runs : List RunLine) → run_of text ≡ Ok runs → IsRun text runs) → (name text : List ℕ) (lines : List RunLine) → judge_run name text ≡ Accepted lines → IsRun text lines
unfolding judge_run
run_found law name text lines is = at (run_of text) refl is
  where
    at : (read : Result (List RunLine) RunFault) → run_of text ≡ read → judged_run name read ≡ Accepted lines → IsRun text lines
    at (Ok runs) read is = (let same : runs ≡ lines = cc in subst (IsRun text) same (law text runs read))
    at (Err (faults.Refused line why)) read is = cc
    at (Err faults.NoMemory) read is = cc

pub run_only : ((text : List ℕ) (runs : List RunLine) → IsRun text runs → run_of text ≡ Ok runs) → (name text : List ℕ) (lines : List RunLine) → IsRun text lines → judge_run name text ≡ Accepted lines
run_only law name text lines is = run_read name text lines (law text lines is)

pub run_first : (name other text : List ℕ) (number : ℕ) (place : Place) → judge_run name text ≡ Refuses other number place → (other ≡ name) × IsRefusedRun text number place
unfolding judge_run
run_first name other text number place is = at (run_of text) refl is
  where
    at : (read : Result (List RunLine) RunFault) → run_of text ≡ read → judged_run name read ≡ Refuses other number place → (other ≡ name) × IsRefusedRun text number place
    at (Ok runs) read is = cc
    at (Err (faults.Refused line why)) read is =
        let same : other ≡ name = cc in
        let numbered : number ≡ number_of why = cc in
        let placed : place ≡ Line line = cc in
        (same, record { line = line; why = why; first = read; numbered = numbered; placed = placed })
    at (Err faults.NoMemory) read is = cc

pub run_there : (name other text : List ℕ) → judge_run name text ≢ Missing other
unfolding judge_run
run_there name other text is = at (run_of text) is
  where
    at : (read : Result (List RunLine) RunFault) → judged_run name read ≢ Missing other
    at (Ok runs) is = cc
    at (Err (faults.Refused line why)) is = cc
    at (Err faults.NoMemory) is = cc
