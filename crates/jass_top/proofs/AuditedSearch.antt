-- What a search leaves is audited with a yes.
use Rattle.shared_lemmas.proofs.Common.{◌≡◌, ◌≤◌, ◌^◌, ℕ, List, [], ◌∷◌, length, codes, Some, Ok, sym, ap, subst, ◌∙◌, arith, AllZip, get, is_utf8-from_IsUtf8, IsUtf8-from_ascii, IsAscii-from_all}
use Rattle.jass_words.specs.Options.{IsTag}
use Rattle.jass_top.proofs.Below.{FileView, Files, IndexData, IsFileView, IsReport, Mode, QueryData, Report, numbered_flat}
use Rattle.ranking_model.specs.Plan.{plan_of}
use Rattle.ranking_model.specs.Search.{AreReports, IsSearchReports, prefixes_granted, search_run}
use Rattle.trec_run.specs.declared.run_line.RunLine.{RunLine}
use Rattle.trec_run.specs.Runs.{run_of}
use Rattle.run_audit.specs.declared.verdict.Verdict.TheVariants.{Yes}
use Rattle.run_audit.specs.Audits.{IsAskable, IsAudit, SearchData}
use Rattle.run_audit.specs.Rows.{IsLastColumn, search_rows}
use Rattle.jass_top.specs.AuditMeaning.{AuditInputs, HoldSearch, IsAuditOutput, auditable, judge_audit, judge_audited, judge_run, verdict_line}
use Rattle.jass_top.specs.Judging.{Accepted, behind}
use Rattle.jass_top.specs.Meanings.{Output}
use Rattle.jass_top.specs.QueryJudging.{without_lines}
use Rattle.jass_top.specs.SearchMeaning.{AreSearchReports, IsSearchOutput, IsSearchReport, SearchInputs, plan_over_index, search_within}
use Rattle.jass_words.specs.declared.until.Until.TheVariants as untils
use Rattle.jass_top.proofs.Asked.{HaveColumns, HaveTerms, IndexesAreJudged, QueriesAreJudged, accepted_one, can_be_searched}
use Rattle.jass_top.proofs.Judged.{content_only}
use Rattle.jass_top.proofs.JudgedAudit as judged
use Rattle.jass_top.proofs.OneOutput.{OneVerdict}

-- ---- what is asked

tag_column : (tag : List ℕ) → IsTag tag → IsLastColumn tag
tag_column tag is = record {
  column = record {
    utf8 = is_utf8-from_IsUtf8 tag (IsUtf8-from_ascii tag (IsAscii-from_all tag (λ i d inside. (let seen = is.visible i d inside in omega (arith, seen.1)))));
    some = is.some;
    plain = λ i d inside. (let seen = is.visible i d inside in ((λ e. omega (arith, seen.0, e)), (λ e. omega (arith, seen.0, e)), (λ e. omega (arith, seen.0, e))));
  };
  plain = λ i d inside. (let seen = is.visible i d inside in (λ e. omega (arith, seen.0, e)));
}

-- the inputs of a search are a file's index, and queries that can be asked
pub record CanBeAudited (search : SearchData) (inputs : SearchInputs) : Type 0 where
  pub view : FileView
  pub file : IsFileView view
  pub index : inputs.index ≡ view.index
  pub askable : IsAskable (without_lines inputs.queries) search

module _ (indexes : IndexesAreJudged) (asked_queries : QueriesAreJudged) (columns : HaveColumns) (terms : HaveTerms) where
  pub can_be_audited : (index queries run reports : List ℕ) (search : SearchData) (mode : Mode) (files : Files) (held : HoldSearch index queries run reports search mode files) → CanBeAudited search held.inputs
  can_be_audited index queries run reports search mode files held =
      let can = can_be_searched indexes asked_queries columns terms untils.Budget index queries mode files held.inputs held.bytes held.accepted in
      record {
        view = can.view;
        file = can.file;
        index = can.index;
        askable = record { ids = can.ids; terms = can.terms; tag = tag_column search.tag held.tag; few = held.few };
      }

-- ---- reports of a search are such as an audit wants

module _ (index : IndexData) (search : SearchData) where
  exact_reports : (query : QueryData) (prefixes : List ℕ) (reports : List Report) → AllZip (IsSearchReport index query search.k) prefixes reports → AllZip (λ n report. IsReport n (plan_over_index index query) search.k report) prefixes reports
  exact_reports query [] [] are = tt
  exact_reports query [] (report ∷ reports) are = absurd are
  exact_reports query (n ∷ prefixes) [] are = absurd are
  exact_reports query (n ∷ prefixes) (report ∷ reports) are = (are.0.exact, exact_reports query prefixes reports are.1)

  each_exact : (queries : List QueryData) (reports : List (List Report)) → AllZip (AreSearchReports index (search_within search.k search.budgets search.tag)) queries reports
      → AllZip (λ query these. AreReports (plan_of (length index.names) (numbered_flat index) query.terms) search.k search.budgets these) queries reports
  each_exact [] [] are = tt
  each_exact [] (these ∷ reports) are = absurd are
  each_exact (query ∷ queries) [] are = absurd are
  each_exact (query ∷ queries) (these ∷ reports) are = (exact_reports query (prefixes_granted search.budgets (plan_over_index index query)) these are.0, each_exact queries reports are.1)

pub reports_printed : (search : SearchData) (inputs : SearchInputs) (left : Output) → IsSearchOutput (search_within search.k search.budgets search.tag) inputs left
    → IsSearchReports inputs.index.names (numbered_flat inputs.index) (without_lines inputs.queries) search.k search.budgets left.text
reports_printed search inputs left exact = record {
  reports = exact.reports.reports;
  each = each_exact inputs.index search (without_lines inputs.queries) exact.reports.reports exact.reports.each;
  is = exact.reports.is;
}

-- ---- the audit

-- the laws of audits
abbrev pub RunsAreRead : Type 0
RunsAreRead = (file : FileView) (queries : List QueryData) (search : SearchData) → IsFileView file → IsAskable queries search
    → run_of (search_run file.index.names (numbered_flat file.index) queries search.k search.budgets search.tag) ≡ Ok (search_rows file.index.names (numbered_flat file.index) queries search.k search.budgets search.tag)

abbrev pub SearchesAreRight : Type 0
SearchesAreRight = (file : FileView) (queries : List QueryData) (search : SearchData) (run : List RunLine) (reports : List ℕ) → IsFileView file → IsAskable queries search
    → run_of (search_run file.index.names (numbered_flat file.index) queries search.k search.budgets search.tag) ≡ Ok run
    → IsSearchReports file.index.names (numbered_flat file.index) queries search.k search.budgets reports → IsAudit file.index.names (numbered_flat file.index) queries search run reports Yes

pub text_there : (name : List ℕ) (files : Files) (content : List ℕ) → get files name ≡ Some content → length content ≤ 2 ^ 32 → judge_audited name (Some files) ≡ Accepted content
text_there name files content there few = ap (λ j. behind j (auditable name)) (content_only name files content there) ∙ judged.short_text name content few

module _ (reads : RunsAreRead) (right : SearchesAreRight) (one_verdict : OneVerdict) (index queries run reports : List ℕ) (search : SearchData) (mode : Mode) (files : Files)
    (held : HoldSearch index queries run reports search mode files) (can : CanBeAudited search held.inputs) where
  abbrev asked : List QueryData
  asked = without_lines held.inputs.queries

  abbrev rows_over : IndexData → List RunLine
  rows_over i = search_rows i.names (numbered_flat i) asked search.k search.budgets search.tag

  abbrev run_over : IndexData → List ℕ
  run_over i = search_run i.names (numbered_flat i) asked search.k search.budgets search.tag

  abbrev audited : AuditInputs
  audited = record { index = held.inputs.index; queries = held.inputs.queries; run = rows_over held.inputs.index; reports = held.left.text }

  read : run_of (run_over held.inputs.index) ≡ Ok (rows_over held.inputs.index)
  read = subst (λ (i : IndexData). run_of (run_over i) ≡ Ok (rows_over i)) (sym can.index) (reads can.view asked search can.file can.askable)

  lines : judged.lines_in index queries run reports mode (Some files) ≡ Accepted (rows_over held.inputs.index)
  lines = ap (λ j. behind j (judge_run run)) (text_there run files held.left.content held.run_there held.short_run)
      ∙ judged.run_read run held.left.content (rows_over held.inputs.index) (ap run_of held.exact.run ∙ read)

  pub accepted : judge_audit index queries run reports mode (Some files) ≡ Accepted audited
  accepted =
      ap (λ j. behind j (judged.with_search index queries run reports mode (Some files))) held.accepted
      ∙ ap (λ j. behind j (judged.with_lines index queries run reports mode (Some files) held.inputs)) lines
      ∙ ap (λ j. behind j (judged.with_text index queries run reports mode held.inputs (rows_over held.inputs.index))) (text_there reports files held.left.text held.reports_there held.short_reports)

  yes : IsAudit held.inputs.index.names (numbered_flat held.inputs.index) asked search (rows_over held.inputs.index) held.left.text Yes
  yes = subst (λ (i : IndexData). run_of (run_over i) ≡ Ok (rows_over held.inputs.index) → IsSearchReports i.names (numbered_flat i) asked search.k search.budgets held.left.text
      → IsAudit i.names (numbered_flat i) asked search (rows_over held.inputs.index) held.left.text Yes) (sym can.index)
      (right can.view asked search (rows_over held.inputs.index) held.left.text can.file can.askable) read (reports_printed search held.inputs held.left held.exact)

  pub ok : (inputs : AuditInputs) (output : Output) → judge_audit index queries run reports mode (Some files) ≡ Accepted inputs → IsAuditOutput search inputs output → output.text ≡ codes "audit ok\n"
  ok inputs output judged_so is =
      let same : inputs ≡ audited = accepted_one inputs audited (sym judged_so ∙ accepted) in
      let here : IsAuditOutput search audited output = subst (λ (i : AuditInputs). IsAuditOutput search i output) same is in
      let verdict : here.verdict ≡ Yes
      = one_verdict held.inputs.index.names (numbered_flat held.inputs.index) asked search (rows_over held.inputs.index) held.left.text here.verdict Yes here.audit yes in
      ap (λ (o : Output). o.text) here.whole ∙ ap verdict_line verdict
