-- The sessions of a trial, and how it ends.
use Rattle.shared_lemmas.proofs.Common.{◌≡◌, ◌≤◌, ◌<◌, ◌^◌, ◌+◌, ◌-◌, ℕ, suc, true, false, List, ◌∷◌, length, take, get_or, refl, sym, ap, ◌∙◌, arith, codes, nat_le, nat_tests, length-take, sum_by-cons}
use Rattle.jass_top.proofs.Below.{All, QueryPlan, sorted, granted_sum, granted_with, hits_from, rank_cmp, scores_after, top_k, QueryData, query_data, report_by, IndexData, index_postings, index_text, PoolView, session_plan, SessionStands, answer_over, granted_of, k_of, query_of}
use Rattle.jass_top.proofs.Below.{report_of, Session, queries_from, query_words, query_state}
use Rattle.jass_top.specs.declared.stop.Place.TheVariants.{Byte}
use Rattle.jass_top.specs.declared.trial_sums.TrialSums.{TrialSums}
use Rattle.jass_top.specs.Answers.{words_query}
use Rattle.jass_top.specs.Judging.{Judged, Accepted, Refuses, behind}
use Rattle.jass_top.specs.SearchTexts.{queries_steps, query_steps}
use Rattle.jass_top.specs.TrialMeaning.{countable, judge_trial, queries_over, trial_budgets}
use Rattle.jass_top.specs.TrialSums.{hits_after, report_after, with_queries, with_query}
use Rattle.jass_top.proofs.JudgedFiles.{fits}
use Rattle.jass_top.proofs.Turns.{granted_more, prefix_is}

-- ---- the index

few : (name : List ℕ) (index : IndexData) → index_postings index ≤ 2 ^ 29 → countable name index ≡ Accepted index
unfolding countable
few name index small = (let is : nat_le (index_postings index) (2 ^ 29) ≡ true = grind (arith, nat_tests, small) in rw is refl)

many : (name : List ℕ) (index : IndexData) → 2 ^ 29 < index_postings index → countable name index ≡ Refuses name 48 (Byte 24)
unfolding countable
many name index large = (let is : nat_le (index_postings index) (2 ^ 29) ≡ false = grind (arith, nat_tests, large) in rw is refl)

then_judged : (index : IndexData) (judged : Judged IndexData) → length (index_text index) ≤ 2 ^ 32 → countable (codes "trial") index ≡ judged → judge_trial index ≡ judged
then_judged index judged short is = ap (λ (j : Judged IndexData). behind j (countable (codes "trial"))) (fits (codes "trial") index short) ∙ is

pub accepted : (index : IndexData) → length (index_text index) ≤ 2 ^ 32 → index_postings index ≤ 2 ^ 29 → judge_trial index ≡ Accepted index
accepted index short small = then_judged index (Accepted index) short (few (codes "trial") index small)

pub too_many : (index : IndexData) → length (index_text index) ≤ 2 ^ 32 → 2 ^ 29 < index_postings index → judge_trial index ≡ Refuses (codes "trial") 48 (Byte 24)
too_many index short large = then_judged index (Refuses (codes "trial") 48 (Byte 24)) short (many (codes "trial") index large)

-- ---- one grant

pub top_few : (n : ℕ) (plan : QueryPlan) (k : ℕ) → length (top_k n plan k) ≤ k
top_few n plan k = (let size = length-take k (sorted rank_cmp (hits_from 0 (scores_after n plan))) in omega (arith, size))

pub next_granted : (s t : Session) (j : ℕ) → j < length trial_budgets → granted_of s ≡ granted_sum (take j trial_budgets) → granted_of t ≡ granted_with (granted_of s) (get_or trial_budgets j All)
    → granted_of t ≡ granted_sum (take (j + 1) trial_budgets)
next_granted s t j inside before granted = granted ∙ ap (λ n. granted_with n (get_or trial_budgets j All)) before ∙ granted_more trial_budgets j All inside

module _ (index : IndexData) (s t : Session) (pool : PoolView) (j : ℕ) (stands : SessionStands t index pool) (same : query_of t ≡ query_of s) (ten : k_of t ≡ 10) (granted : granted_of t ≡ granted_sum (take j trial_budgets)) where
  pub report_is : report_of t ≡ report_after index j (query_data (query_of s))
  unfolding report_after
  report_is = stands.report ∙ (λ i. report_by (prefix_is index s t pool trial_budgets j stands same granted i) (session_plan index (same i).terms) (ten i))

  pub hits_are : answer_over index t ≡ hits_after index j (query_data (query_of s))
  unfolding hits_after
  hits_are = λ i. top_k (prefix_is index s t pool trial_budgets j stands same granted i) (session_plan index (same i).terms) (ten i)

-- ---- one query more

pub next_query : (terms queries i state : ℕ) → i < queries → queries_from terms (queries - i) state ≡ query_words terms state ∷ queries_from terms (queries - (i + 1)) (query_state state)
next_query terms queries i state low = let left : queries - i ≡ suc (queries - (i + 1)) = omega arith in ap (λ n. queries_from terms n state) left

module _ (index : IndexData) (terms queries i state next : ℕ) (sums more : TrialSums) (words : List (List ℕ)) (low : i < queries)
    (drawn : words ≡ query_words terms state) (moved : next ≡ query_state state) where
  abbrev left : List QueryData
  left = queries_over index (queries_from terms (queries - i) state)

  abbrev later : List QueryData
  later = queries_over index (queries_from terms (queries - (i + 1)) next)

  left_is : left ≡ words_query index words ∷ later
  left_is = ap (queries_over index) (next_query terms queries i state low)
      ∙ (λ x. words_query index (sym drawn x) ∷ queries_over index (queries_from terms (queries - (i + 1)) (sym moved x)))

  pub sums_more : (whole : TrialSums) → more ≡ with_query index (words_query index words) sums → with_queries index left sums ≡ whole → with_queries index later more ≡ whole
  sums_more whole added before = ap (with_queries index later) added ∙ sym (ap (λ (qs : List QueryData). with_queries index qs sums) left_is) ∙ before

  pub steps_are : queries_steps index trial_budgets left ≡ query_steps index trial_budgets (words_query index words) + queries_steps index trial_budgets later
  steps_are = ap (queries_steps index trial_budgets) left_is ∙ sum_by-cons (query_steps index trial_budgets) (words_query index words) later
