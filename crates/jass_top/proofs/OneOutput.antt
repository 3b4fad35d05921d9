-- A command has one output for its inputs.
use Rattle.shared_lemmas.proofs.Common.{◌≡◌, ℕ, List, [], ◌∷◌, refl, sym, ap, ◌∙◌, sum_by, AllZip}
use Rattle.jass_top.proofs.Below.{Entry, Grade, Report, QueryPlan, numbered_flat, IsGrade, IsReport, QueryData, prefixes_granted, report_lines, IndexData, CommandData, Once, Search, Shards, Audit, Serve, Trial, trial_queries}
use Rattle.ranking_model.specs.Report.{report_of}
use Rattle.trec_run.specs.declared.run_line.RunLine.{RunLine}
use Rattle.run_audit.specs.declared.verdict.Verdict.{Verdict}
use Rattle.run_audit.specs.Audits.{IsAudit, SearchData}
use Rattle.jass_top.specs.AuditMeaning.{AuditInputs, IsAuditOutput, audit_postings, verdict_line}
use Rattle.jass_top.specs.Answers.{OnceQuery, once_plan, once_prefix, once_steps, once_text}
use Rattle.jass_top.specs.Commands.{meaning_of}
use Rattle.jass_top.specs.Meanings.{HasOneOutput, Output}
use Rattle.jass_top.specs.OnceMeaning.{IsOnceOutput}
use Rattle.sharp_bounds.specs.Sharpness.{IsSharpGrade}
use Rattle.jass_words.specs.declared.until.Until.{Until}
use Rattle.jass_words.specs.declared.until.Until.TheVariants as untils
use Rattle.jass_top.specs.Until.{IsReportUntil}
use Rattle.jass_top.specs.SearchMeaning.{AreSearchReports, IsReportOf, IsSearchOutput, SearchInputs, plan_over_index, scored_postings, search_until, search_within}
use Rattle.jass_top.specs.SearchMeaning as asked
use Rattle.jass_top.specs.QueryJudging.{without_lines}
use Rattle.jass_top.specs.TrialMeaning.{AreTrialReports, IsTrialOutput, queries_over, trial_budgets, trial_prefix, trial_summary}

-- the law of verdicts
abbrev pub OneVerdict : Type 0
OneVerdict = (names : List (List ℕ)) (flat : List (Entry ℕ)) (queries : List QueryData) (search : SearchData) (run : List RunLine) (reports : List ℕ) (first second : Verdict)
    → IsAudit names flat queries search run reports first → IsAudit names flat queries search run reports second → first ≡ second

-- ---- reports are one

module _ (one_grade : (scores : List ℕ) (k bound : ℕ) (first second : Grade) → IsGrade scores k bound first → IsGrade scores k bound second → first ≡ second) (one_verdict : OneVerdict)
    (one_sharp_grade : (n k : ℕ) (plan : QueryPlan) (first second : Grade) → IsSharpGrade n plan k first → IsSharpGrade n plan k second → first ≡ second) where
  same_report : (n : ℕ) (plan : QueryPlan) (k : ℕ) (one other : Report) → IsReport n plan k one → IsReport n plan k other → one ≡ other
  same_report n plan k one other is theirs =
      let grade : one.grade ≡ other.grade = one_grade _ k _ one.grade other.grade is.graded theirs.graded in
      is.numbers ∙ ap (report_of n plan) grade ∙ sym theirs.numbers

  same_answer : (query : OnceQuery) (index : IndexData) (one other : Output) → IsOnceOutput query index one → IsOnceOutput query index other → one ≡ other
  same_answer query index one other is theirs =
      let report : is.report ≡ theirs.report = same_report (once_prefix index query) (once_plan index query) query.k is.report theirs.report is.answer.exact theirs.answer.exact in
      is.whole ∙ ap (λ (r : Report). (let o : Output = record { content = []; text = once_text index query r; steps = once_steps index query } in o)) report ∙ sym theirs.whole

  same_report_until : (until : Until) (n : ℕ) (plan : QueryPlan) (k : ℕ) (one other : Report) → IsReportUntil until n plan k one → IsReportUntil until n plan k other → one ≡ other
  same_report_until untils.Budget n plan k one other is theirs = same_report n plan k one other is theirs
  same_report_until untils.Final n plan k one other is theirs =
      let grade : one.grade ≡ other.grade = one_sharp_grade n k plan one.grade other.grade is.graded theirs.graded in
      is.numbers ∙ ap (report_of n plan) grade ∙ sym theirs.numbers

  same_reports_at : (index : IndexData) (until : Until) (query : QueryData) (k : ℕ) (prefixes : List ℕ) (one other : List Report) → AllZip (IsReportOf until index query k) prefixes one → AllZip (IsReportOf until index query k) prefixes other → one ≡ other
  same_reports_at index until query k [] [] [] is theirs = refl
  same_reports_at index until query k [] [] (t ∷ ts) is theirs = absurd theirs
  same_reports_at index until query k [] (r ∷ rs) other is theirs = absurd is
  same_reports_at index until query k (n ∷ prefixes) [] other is theirs = absurd is
  same_reports_at index until query k (n ∷ prefixes) (r ∷ rs) [] is theirs = absurd theirs
  same_reports_at index until query k (n ∷ prefixes) (r ∷ rs) (t ∷ ts) is theirs =
      let first : r ≡ t = same_report_until until n (plan_over_index index query) k r t is.0.exact theirs.0.exact in
      let rest : rs ≡ ts = same_reports_at index until query k prefixes rs ts is.1 theirs.1 in
      λ i. first i ∷ rest i

  same_reports : (index : IndexData) (wanted : asked.Search) (queries : List QueryData) (one other : List (List Report)) → AllZip (AreSearchReports index wanted) queries one → AllZip (AreSearchReports index wanted) queries other → one ≡ other
  same_reports index wanted [] [] [] is theirs = refl
  same_reports index wanted [] [] (t ∷ ts) is theirs = absurd theirs
  same_reports index wanted [] (r ∷ rs) other is theirs = absurd is
  same_reports index wanted (query ∷ queries) [] other is theirs = absurd is
  same_reports index wanted (query ∷ queries) (r ∷ rs) [] is theirs = absurd theirs
  same_reports index wanted (query ∷ queries) (r ∷ rs) (t ∷ ts) is theirs =
      let first : r ≡ t = same_reports_at index wanted.until query wanted.k (wanted.stops (plan_over_index index query)) r t is.0 theirs.0 in
      let rest : rs ≡ ts = same_reports index wanted queries rs ts is.1 theirs.1 in
      λ i. first i ∷ rest i

  same_search : (search : asked.Search) (inputs : SearchInputs) (one other : Output) → IsSearchOutput search inputs one → IsSearchOutput search inputs other → one ≡ other
  same_search search inputs one other is theirs =
      let reports = same_reports inputs.index search (without_lines inputs.queries) is.reports.reports theirs.reports.reports is.reports.each theirs.reports.each in
      let content : one.content ≡ other.content = is.run ∙ sym theirs.run in
      let text : one.text ≡ other.text = is.reports.is ∙ ap (report_lines (without_lines inputs.queries)) reports ∙ sym theirs.reports.is in
      let steps : one.steps ≡ other.steps = is.steps ∙ sym theirs.steps in
      λ i. record { content = content i; text = text i; steps = steps i }

  same_reports_after : (index : IndexData) (grants : ℕ) (queries : List QueryData) (one other : List Report) → AreTrialReports index grants queries one → AreTrialReports index grants queries other → one ≡ other
  same_reports_after index grants [] [] [] is theirs = refl
  same_reports_after index grants [] [] (t ∷ ts) is theirs = absurd theirs
  same_reports_after index grants [] (r ∷ rs) other is theirs = absurd is
  same_reports_after index grants (query ∷ queries) [] other is theirs = absurd is
  same_reports_after index grants (query ∷ queries) (r ∷ rs) [] is theirs = absurd theirs
  same_reports_after index grants (query ∷ queries) (r ∷ rs) (t ∷ ts) is theirs =
      let first : r ≡ t = same_report (trial_prefix index grants query) (plan_over_index index query) 10 r t is.0.exact theirs.0.exact in
      let rest : rs ≡ ts = same_reports_after index grants queries rs ts is.1 theirs.1 in
      λ i. first i ∷ rest i

  same_trial : (queries : List QueryData) (index : IndexData) (one other : Output) → IsTrialOutput queries index one → IsTrialOutput queries index other → one ≡ other
  same_trial queries index one other is theirs =
      let first = same_reports_after index 1 queries is.first theirs.first is.first_are theirs.first_are in
      let second = same_reports_after index 2 queries is.second theirs.second is.second_are theirs.second_are in
      let last = same_reports_after index 3 queries is.last theirs.last is.last_are theirs.last_are in
      is.whole ∙ (λ i. record { content = []; text = trial_summary index queries (first i) (second i) (last i); steps = sum_by (scored_postings index (prefixes_granted trial_budgets)) queries }) ∙ sym theirs.whole

  same_audit : (search : SearchData) (inputs : AuditInputs) (one other : Output) → IsAuditOutput search inputs one → IsAuditOutput search inputs other → one ≡ other
  same_audit search inputs one other is theirs =
      let verdict : is.verdict ≡ theirs.verdict
      = one_verdict inputs.index.names (numbered_flat inputs.index) (without_lines inputs.queries) search inputs.run inputs.reports is.verdict theirs.verdict is.audit theirs.audit in
      is.whole ∙ ap (λ (v : Verdict). (let o : Output = record { content = []; text = verdict_line v; steps = audit_postings inputs } in o)) verdict ∙ sym theirs.whole

  -- two outputs of which each is this one
  same_texts : (whole one other : Output) → one ≡ whole → other ≡ whole → (one.content ≡ other.content) × (one.text ≡ other.text)
  same_texts whole one other is theirs = (ap (λ (o : Output). o.content) (is ∙ sym theirs), ap (λ (o : Output). o.text) (is ∙ sym theirs))

  pub one_output : (command : CommandData) → HasOneOutput (meaning_of command)
  one_output (Once ciff k budget terms) = λ inputs input one other is theirs. same_texts other one other (same_answer (record { k = k; budget = budget; words = terms }) inputs one other is theirs) refl
  one_output (Search index queries run k limits tag mode until) = λ inputs input one other is theirs. same_texts other one other (same_search (search_until until k limits tag) inputs one other is theirs) refl
  one_output (Shards indexes queries run k limits tag mode) = λ inputs input one other is theirs. same_texts other one other (same_search (search_within k limits tag) inputs one other is theirs) refl
  one_output (Audit index queries run reports k limits tag mode) = λ inputs input one other is theirs.
      same_texts other one other (same_audit (record { k = k; budgets = limits; tag = tag }) inputs one other is theirs) refl
  one_output (Serve index frames) = λ file input one other is theirs. (is.content ∙ sym theirs.content, is.text ∙ sym theirs.text)
  one_output (Trial seed docs terms queries) = λ inputs input one other is theirs. same_texts other one other (same_trial (queries_over inputs (trial_queries seed docs terms queries)) inputs one other is theirs) refl
  one_output command = λ inputs input one other is theirs. same_texts _ one other is theirs
