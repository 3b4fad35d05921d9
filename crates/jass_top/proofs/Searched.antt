-- What a search leaves query by query is its output.
use Rattle.shared_lemmas.proofs.Common.{◌≡◌, ℕ, ◌==◌, List, [], ◌∷◌, ◌++◌, length, map, take, refl, sym, ap, subst, ◌∙◌, ◌+◌, ◌≤◌, arith, Option, Some, None, Bool, drop, if◌then◌else◌, AllZip, AllByRecursion, nat_cmp, length-map, flat_map-map, take_all}
use Rattle.std.proofs.Common.{flat_map}
use Rattle.std.specs.List.{items_where_true, last_or, sum_by}
use Rattle.ranking_model.specs.Heaviest.{weight_of_first}
use Rattle.ranking_model.specs.declared.posting.WeightedPosting.{WeightedPosting}
use Rattle.std.specs.Option.{unwrap_or}
use Rattle.jass_top.proofs.Below.{Budget, Query, Report, scores_after, QueryTerm, Files, AppendsPrefix, Entry, QueryPlan, IsFlat, IndexData, PlanSegment, plan_of, weighted_postings, IsPromised, IsReport, granted_sum, size_of_first, report_line, top_k, QueryData, first_part, prefix_granted, prefixes_granted, report_lines, run_parts, report_by, numbered_flat}
use Rattle.index_file.specs.Sources.{IsSearchable}
use Rattle.ranking_model.specs.Search as model
use Rattle.session_engine.specs.Plans.{session_plan}
use Rattle.jass_top.specs.QueryJudging.{LineQuery, without_lines}
use Rattle.jass_base.specs.declared.answer.Grade.TheVariants.{Set}
use Rattle.ranking_model.specs.Finality.{IsFinal, first_documents}
use Rattle.ranking_model.specs.Postings.{AreTerms}
use Rattle.ranking_model.specs.Report.{report_of}
use Rattle.sharp_bounds.specs.Rule.{sharp_grade}
use Rattle.sharp_bounds.specs.Sharpness.{IsSharpFinal, IsSharpGrade, IsSharpReport}
use Rattle.jass_words.specs.declared.until.Until.{Until}
use Rattle.jass_words.specs.declared.until.Until.TheVariants as untils
use Rattle.jass_top.specs.SearchMeaning.{AreSearchReports, IsReportOf, IsSearchOutput, Search, SearchInputs, plan_over_index, postings_within, scored_in, search_within, searching_meaning}
use Rattle.jass_top.specs.SearchTexts.{budgets_output, first_part_of, parts_reports, parts_run, plan_for, prefixes_for, query_run, report_until, search_output, stops_for, stops_run}
use Rattle.jass_top.specs.Endings.{Over}
use Rattle.jass_top.specs.Judging.{Judged}
use Rattle.jass_top.specs.Private.Inputs.{HasInput}
use Rattle.jass_top.specs.Standing.{LeavesFront, OfOutput, PartOfEach}
use Rattle.jass_top.specs.Worlds.{Outer}
use Rattle.jass_top.specs.Private.SearchRuns.{asked_of}
use Rattle.jass_top.proofs.Engines.{Fits, last_in_range}
use Rattle.jass_top.proofs.Turns.{ForEach}

-- the law of what reports promise
abbrev pub KeepPromises : Type 0
KeepPromises = (docs n k : ℕ) (flat : List (Entry ℕ)) (terms : List QueryTerm) (report : Report) → IsFlat nat_cmp docs flat
    → IsReport n (plan_of docs flat terms) k report → IsPromised (weighted_postings flat terms) n (plan_of docs flat terms) k report

-- the law of reports by the rule
abbrev pub GiveReports : Type 0
GiveReports = (n k : ℕ) (plan : QueryPlan) → IsReport n plan k (report_by n plan k)

-- the laws of sharply final answers
abbrev pub GradeSharply : Type 0
GradeSharply = (docs n k : ℕ) (flat : List (Entry ℕ)) (terms : List QueryTerm) → IsFlat nat_cmp docs flat → AreTerms terms → IsSharpGrade n (plan_of docs flat terms) k (sharp_grade n (plan_of docs flat terms) k)

abbrev pub StandSharply : Type 0
StandSharply = (docs n m k : ℕ) (flat : List (Entry ℕ)) (terms : List QueryTerm) → IsFlat nat_cmp docs flat → n ≤ m → IsSharpFinal n (plan_of docs flat terms) k
    → first_documents (scores_after m (plan_of docs flat terms)) k ≡ first_documents (scores_after n (plan_of docs flat terms)) k

abbrev pub AreSharplyFinal : Type 0
AreSharplyFinal = (n k : ℕ) (plan : QueryPlan) → IsFinal n plan k → IsSharpFinal n plan k

-- terms that may be asked, where that matters
abbrev pub AreNamed : Until → List QueryData → Type 0
AreNamed until queries = until ≡ untils.Final → AllByRecursion (λ (query : QueryData). AreTerms query.terms) queries

pub all_named : (until : Until) (queries : List Query) → AreNamed until (asked_of queries)
all_named until [] far = tt
all_named until (query ∷ queries) far = (record { few = query.few; named = query.named; differ = query.differ }, all_named until queries far)

-- ---- the last prefix within budgets

pub scored_within : Fits → (budgets : List Budget) (plan : QueryPlan) → scored_in (prefixes_granted budgets) plan ≡ postings_within budgets plan
scored_within fits [] plan = (let none = fits (granted_sum []) plan.segments in omega (arith, none))
scored_within fits (budget ∷ budgets) plan =
    let all : List Budget = budget ∷ budgets in
    let last : last_or None (prefixes_granted all plan) ≡ Some (prefix_granted (1 + length budgets) all plan) = last_in_range (λ j. prefix_granted j all plan) None 1 (length budgets) in
    let whole : take (1 + length budgets) all ≡ all = take_all (1 + length budgets) all (omega arith) in
    ap (λ (o : Option ℕ). size_of_first (unwrap_or o 0) plan.segments) last
    ∙ ap (λ (granted : List Budget). postings_within granted plan) whole

-- ---- the run

module _ (index : IndexData) (wanted : Search) where
  first_same : (plan : QueryPlan) → first_part (map (λ n. top_k n plan wanted.k) (wanted.stops plan)) ≡ first_part_of (wanted.stops plan)
  first_same plan = ap (λ (count : ℕ). if count == 1 then 0 else 1) (length-map (wanted.stops plan) (λ n. top_k n plan wanted.k))

  run_of : (query : QueryData) → stops_run index wanted query
      ≡ model.query_run index.names (plan_over_index index query) query.id wanted.k (wanted.stops (plan_over_index index query)) wanted.tag
  unfolding parts_run session_plan
  run_of query =
      let plan : QueryPlan = plan_over_index index query in
      ap (λ part. run_parts index.names query.id wanted.tag part (map (λ n. top_k n plan wanted.k) (wanted.stops plan))) (sym (first_same plan))

-- ---- the reports

-- what a report by limits promises is what one by the bound does
sharply_promised : GiveReports → KeepPromises → StandSharply → AreSharplyFinal → (docs n k : ℕ) (flat : List (Entry ℕ)) (terms : List QueryTerm) (report : Report) → IsFlat nat_cmp docs flat → IsSharpReport n (plan_of docs flat terms) k report
    → IsPromised (weighted_postings flat terms) n (plan_of docs flat terms) k report
sharply_promised give keep stand sharply docs n k flat terms report is_flat is =
    let plan : QueryPlan = plan_of docs flat terms in
    let plain : IsPromised (weighted_postings flat terms) n plan k (report_by n plan k) = keep docs n k flat terms (report_by n plan k) is_flat (give n k plan) in
    record {
      scored = subst (λ (r : Report). AllByRecursion (λ (s : PlanSegment). r.cutoff ≤ s.weight) (take n plan.segments)) (sym is.numbers) plain.scored;
      unscored = subst (λ (r : Report). AllByRecursion (λ (s : PlanSegment). s.weight ≤ r.next) (drop n plan.segments)) (sym is.numbers) plain.unscored;
      parted = subst (λ (r : Report). 1 ≤ r.segments → r.next ≤ r.cutoff) (sym is.numbers) plain.parted;
      heaviest = subst (λ (r : Report). (choice : List Bool) → length (items_where_true choice (weighted_postings flat terms)) ≡ r.postings → sum_by (λ (p : WeightedPosting). p.weight) (items_where_true choice (weighted_postings flat terms)) ≤ weight_of_first n plan.segments) (sym is.numbers) plain.heaviest;
      final_stands = λ final m later. stand docs n m k flat terms is_flat later (subst (IsSharpGrade n plan k) final is.graded);
      set_stands = λ set m later. (
          let kept = subst (IsSharpGrade n plan k) set is.graded in
          let exact : IsReport n plan k (report_of n plan Set) = record { numbers = refl; graded = (kept.0, (λ final. kept.1 (sharply n k plan final))) } in
          (keep docs n k flat terms (report_of n plan Set) is_flat exact).set_stands refl m later);
    }

module _ (give : GiveReports) (keep : KeepPromises) (grade : GradeSharply) (stand : StandSharply) (sharply : AreSharplyFinal) (index : IndexData) (flat : IsFlat nat_cmp (length index.names) (numbered_flat index)) (wanted : Search) where
  report_is : (until : Until) (query : QueryData) (n : ℕ) → (until ≡ untils.Final → AreTerms query.terms) → IsReportOf until index query wanted.k n (report_until until n (plan_for index query) wanted.k)
  unfolding session_plan
  report_is untils.Budget query n named =
      let plan : QueryPlan = plan_over_index index query in
      let exact : IsReport n plan wanted.k (report_by n plan wanted.k) = give n wanted.k plan in
      record { exact = exact; promised = keep (length index.names) n wanted.k (numbered_flat index) query.terms (report_by n plan wanted.k) flat exact }
  report_is untils.Final query n named =
      let plan : QueryPlan = plan_over_index index query in
      let report : Report = report_of n plan (sharp_grade n plan wanted.k) in
      let exact : IsSharpReport n plan wanted.k report = record { numbers = refl; graded = grade (length index.names) n wanted.k (numbered_flat index) query.terms flat (named refl) } in
      record { exact = exact; promised = sharply_promised give keep stand sharply (length index.names) n wanted.k (numbered_flat index) query.terms report flat exact }

  abbrev reports_at : QueryData → List ℕ → List Report
  reports_at query prefixes = map (λ n. report_until wanted.until n (plan_for index query) wanted.k) prefixes

  reports_are : (query : QueryData) (prefixes : List ℕ) → (wanted.until ≡ untils.Final → AreTerms query.terms) → AllZip (IsReportOf wanted.until index query wanted.k) prefixes (reports_at query prefixes)
  reports_are query [] named = tt
  reports_are query (n ∷ prefixes) named = (report_is wanted.until query n named, reports_are query prefixes named)

  abbrev reports_of : QueryData → List Report
  reports_of query = reports_at query (stops_for index wanted query)

  query_reports_are : (query : QueryData) → (wanted.until ≡ untils.Final → AreTerms query.terms) → AreSearchReports index wanted query (reports_of query)
  unfolding session_plan
  query_reports_are query named = reports_are query (stops_for index wanted query) named

  all_reports_are : (queries : List QueryData) → AreNamed wanted.until queries → AllZip (AreSearchReports index wanted) queries (map reports_of queries)
  all_reports_are [] named = tt
  all_reports_are (query ∷ queries) named = (query_reports_are query (λ far. (named far).0), all_reports_are queries (λ far. (named far).1))

  lines_are : (queries : List QueryData) → (search_output index wanted queries).text ≡ report_lines queries (map reports_of queries)
  unfolding parts_reports
  lines_are [] = refl
  lines_are (query ∷ queries) =
      let these : parts_reports index wanted.until wanted.k query (stops_for index wanted query) ≡ flat_map (λ report. report_line query.id report query.unknown) (reports_of query)
      = sym (flat_map-map (λ report. report_line query.id report query.unknown) (λ n. report_until wanted.until n (plan_for index query) wanted.k) (stops_for index wanted query)) in
      λ i. these i ++ lines_are queries i

  pub searched : (queries : List LineQuery) → AreNamed wanted.until (without_lines queries) → IsSearchOutput wanted (record { index = index; queries = queries }) (search_output index wanted (without_lines queries))
  unfolding session_plan
  searched queries named = record {
    run = λ i. flat_map (λ query. run_of index wanted query i) (without_lines queries);
    reports = record { reports = map reports_of (without_lines queries); each = all_reports_are (without_lines queries) named; is = lines_are (without_lines queries) };
    steps = refl;
  }

-- ---- within budgets

pub same_output : Fits → ForEach → (index : IndexData) (k : ℕ) (budgets : List Budget) (tag : List ℕ) (queries : List QueryData) → search_output index (search_within k budgets tag) queries ≡ budgets_output index k budgets tag queries
same_output fits each index k budgets tag queries = λ i. record {
  content = flat_map (λ query. same_run query i) queries;
  text = (budgets_output index k budgets tag queries).text;
  steps = sum_by (λ query. scored_within fits budgets (plan_for index query) i) queries;
}
  where
    same_run : (query : QueryData) → stops_run index (search_within k budgets tag) query ≡ query_run index k budgets tag query
    same_run query = ap (λ (count : ℕ). parts_run index k tag query (if count == 1 then 0 else 1) (prefixes_for index budgets query)) (each budgets (plan_for index query))

-- ---- a part of it

-- the law of what a search leaves
abbrev pub LeaveOutputs : Type 0
LeaveOutputs = (held : IndexData) (wanted : Search) (queries : List LineQuery) → IsSearchable held → AreNamed wanted.until (without_lines queries)
    → IsSearchOutput wanted (record { index = held; queries = queries }) (search_output held wanted (without_lines queries))

-- the inputs are an index and some queries
abbrev pub AreInputs : IndexData → List QueryData → SearchInputs → Type 0
AreInputs held asked inputs = (inputs.index ≡ held) × (without_lines inputs.queries ≡ asked)

pub exact_for : LeaveOutputs → (held : IndexData) (wanted : Search) (asked : List QueryData) (inputs : SearchInputs) → IsSearchable held → AreNamed wanted.until asked → AreInputs held asked inputs
    → IsSearchOutput wanted inputs (search_output held wanted asked)
exact_for law held wanted asked inputs searchable named are =
    subst (λ (queries : List QueryData). IsSearchOutput wanted inputs (search_output held wanted queries)) are.1
    (subst (λ (index : IndexData). IsSearchOutput wanted (record { index = index; queries = inputs.queries }) (search_output held wanted (without_lines inputs.queries))) (sym are.0)
    (law held wanted inputs.queries searchable (subst (AreNamed wanted.until) (sym are.1) named)))

pub part_left : LeaveOutputs → (names : List (List ℕ)) (judge : Option Files → Judged SearchInputs) (run : List ℕ) (wanted : Search) (held : IndexData) (asked : List QueryData) (told : Option Files) (before after : Outer) → IsSearchable held → AreNamed wanted.until asked → told ≡ before.told
    → HasInput (judge before.told) (AreInputs held asked) → LeavesFront (Some run) told after.told (search_output held wanted asked).content
    → AppendsPrefix before.written after.written (search_output held wanted asked).text → (before.steps ≤ after.steps) × (after.steps ≤ before.steps + (search_output held wanted asked).steps)
    → Over (searching_meaning names judge run wanted) (OfOutput (IsSearchOutput wanted) (PartOfEach run)) before after
part_left law names judge run wanted held asked told before after searchable named same had content text steps = record {
  inputs = had.input;
  accepted = had.accepted;
  stands = record {
    output = search_output held wanted asked;
    exact = exact_for law held wanted asked had.input searchable named had.holds;
    stands = record {
      content = subst (λ old. LeavesFront (Some run) old after.told (search_output held wanted asked).content) same content;
      text = text;
      steps = record { never_less = steps.0; at_most = steps.1 };
    };
  };
}
