-- What a trial leaves query by query is its summary.
use Rattle.shared_lemmas.proofs.Common.{◌≡◌, ℕ, ◌+◌, cond, List, [], ◌∷◌, ◌++◌, length, map, refl, sym, arith, codes, count_by, nat_cmp, sum_by-cons}
use Rattle.std.specs.List.{sum_by}
use Rattle.jass_top.proofs.Below.{Report, IsFlat, IsReport, QueryData, numbered_flat, IndexData, codec_use}
use Rattle.index_layout.specs.View.{chosen_codecs}
use Rattle.session_engine.specs.Plans.{session_plan}
use Rattle.shared_lemmas.proofs.Sums.{sum_map}
use Rattle.jass_top.specs.declared.trial_sums.BudgetSum.{BudgetSum}
use Rattle.jass_top.specs.declared.trial_sums.TrialSums.{TrialSums}
use Rattle.jass_top.specs.SearchMeaning.{IsSearchReport, plan_over_index}
use Rattle.jass_top.specs.TrialMeaning.{AreTrialReports, IsTrialOutput, budget_line, hit_scores, index_line, is_final, sum_line, trial_budgets, trial_prefix, trial_scores}
use Rattle.jass_top.specs.TrialSums.{budget_text, hits_after, no_sums, report_after, trial_output, with_queries, with_query}
use Rattle.jass_top.proofs.Engines.{Fits}
use Rattle.jass_top.proofs.Searched.{GiveReports, KeepPromises, scored_within}

-- ---- the sums

-- a number that each query adds to
component : (index : IndexData) (f : TrialSums → ℕ) (g : QueryData → ℕ) → ((query : QueryData) (sums : TrialSums) → f (with_query index query sums) ≡ f sums + g query)
    → (queries : List QueryData) (sums : TrialSums) → f (with_queries index queries sums) ≡ f sums + sum_by g queries
component index f g adds [] sums = omega arith
component index f g adds (query ∷ queries) sums =
    let first = adds query sums in
    let later = component index f g adds queries (with_query index query sums) in
    let whole = sum_by-cons g query queries in
    omega arith

scores_are : (index : IndexData) (grants : ℕ) (query : QueryData) → hit_scores (hits_after index grants query) ≡ trial_scores index grants query
unfolding hits_after session_plan
scores_are index grants query = refl

-- one line, by the sum after so many grants
module _ (index : IndexData) (queries : List QueryData) (grants : ℕ) (budget : List ℕ) (part : TrialSums → BudgetSum)
    (postings : (query : QueryData) (sums : TrialSums) → (part (with_query index query sums)).postings ≡ (part sums).postings + (report_after index grants query).postings)
    (finals : (query : QueryData) (sums : TrialSums) → (part (with_query index query sums)).finals ≡ (part sums).finals + cond (is_final (report_after index grants query).grade) 1 0)
    (scores : (query : QueryData) (sums : TrialSums) → (part (with_query index query sums)).scores ≡ (part sums).scores + hit_scores (hits_after index grants query))
    (no_postings : (part no_sums).postings ≡ 0) (no_finals : (part no_sums).finals ≡ 0) (no_scores : (part no_sums).scores ≡ 0) where
  abbrev reports : List Report
  reports = map (report_after index grants) queries

  line_is : budget_text budget (part (with_queries index queries no_sums)) ≡ budget_line index queries grants budget reports
  line_is =
      let posted = component index (λ s. (part s).postings) (λ q. (report_after index grants q).postings) postings queries no_sums in
      let posted_too = sum_map (λ (r : Report). r.postings) (report_after index grants) queries in
      let all : (part (with_queries index queries no_sums)).postings ≡ sum_by (λ (r : Report). r.postings) reports = omega arith in
      let ended = component index (λ s. (part s).finals) (λ q. cond (is_final (report_after index grants q).grade) 1 0) finals queries no_sums in
      let ended_too = sum_map (λ (r : Report). cond (is_final r.grade) 1 0) (report_after index grants) queries in
      let final : (part (with_queries index queries no_sums)).finals ≡ count_by (λ (r : Report). is_final r.grade) reports = omega arith in
      let scored = component index (λ s. (part s).scores) (λ q. hit_scores (hits_after index grants q)) scores queries no_sums in
      let scored_too : sum_by (λ q. hit_scores (hits_after index grants q)) queries ≡ sum_by (trial_scores index grants) queries = (λ i. sum_by (λ q. scores_are index grants q i) queries) in
      let score : (part (with_queries index queries no_sums)).scores ≡ sum_by (trial_scores index grants) queries = omega arith in
      (λ i. sum_line budget (all i) (final i) (score i))

-- ---- the reports

module _ (give : GiveReports) (keep : KeepPromises) (index : IndexData) (flat : IsFlat nat_cmp (length index.names) (numbered_flat index)) where
  report_is : (query : QueryData) (grants : ℕ) → IsSearchReport index query 10 (trial_prefix index grants query) (report_after index grants query)
  unfolding report_after session_plan
  report_is query grants =
      let n : ℕ = trial_prefix index grants query in
      let exact : IsReport n (plan_over_index index query) 10 (report_after index grants query) = give n 10 (plan_over_index index query) in
      record { exact = exact; promised = keep (length index.names) n 10 (numbered_flat index) query.terms (report_after index grants query) flat exact }

  reports_are : (grants : ℕ) (queries : List QueryData) → AreTrialReports index grants queries (map (report_after index grants) queries)
  reports_are grants [] = tt
  reports_are grants (query ∷ queries) = (report_is query grants, reports_are grants queries)

  pub summed_up : Fits → (queries : List QueryData) → IsTrialOutput queries index (trial_output index (codec_use (chosen_codecs (length index.names) index.terms)) queries)
  unfolding session_plan
  summed_up fits queries =
      let one = line_is index queries 1 (codes "1000") (λ s. s.first) (λ q s. refl) (λ q s. refl) (λ q s. refl) refl refl refl in
      let two = line_is index queries 2 (codes "10000") (λ s. s.second) (λ q s. refl) (λ q s. refl) (λ q s. refl) refl refl refl in
      let three = line_is index queries 3 (codes "all") (λ s. s.last) (λ q s. refl) (λ q s. refl) (λ q s. refl) refl refl refl in
      record {
        first = map (report_after index 1) queries;
        second = map (report_after index 2) queries;
        last = map (report_after index 3) queries;
        first_are = reports_are 1 queries;
        second_are = reports_are 2 queries;
        last_are = reports_are 3 queries;
        whole = λ i. record { content = []; text = index_line index ++ (one i ++ (two i ++ three i)); steps = sum_by (λ query. sym (scored_within fits trial_budgets (plan_over_index index query)) i) queries };
      }
