-- One step of a walk over the documents.
use Rattle.shared_lemmas.proofs.Common.{◌≡◌, take_rest, ℕ, ◌-◌, ◌+◌, ◌<◌, ◌≤◌, List, length, take, drop, sym, ap, subst, ◌∙◌, arith}
use Rattle.std.specs.Int.{bit_at}
use Rattle.max_score.specs.declared.candidates.Candidates.{Candidates}
use Rattle.max_score.specs.declared.term_list.TermList.{TermList}
use Rattle.max_score.specs.Private.Lists.{AreBounded, most_of, score_in, scores_in}
use Rattle.max_score.specs.Private.Standing.{IsPassed}
use Rattle.max_score.specs.Private.Walking.{HasMet}
use Rattle.max_score.proofs.Bounds.{front_at_most, score_at, score_parts, scores_length}
use Rattle.max_score.proofs.Standing.{passed_over}

module _ (docs : ℕ) (lists : List TermList) (bounded : AreBounded lists) where
  -- a document in no essential list can't be among the first
  pub in_none : (first doc d : ℕ) (best : Candidates) → HasMet docs lists doc best → most_of (take first lists) ≤ best.threshold → doc ≤ d → d < docs
      → score_in (take (length lists - first) (drop first lists)) d ≡ 0 → IsPassed (scores_in docs lists) best.k d
  in_none first doc d best met most from inside none some =
      let at = score_at docs lists d inside in
      let parts = score_parts d first lists in
      let back = sym (ap (λ (l : List TermList). score_in l d) (take_rest lists first)) ∙ none in
      let front = front_at_most d first lists bounded.greatest in
      met.misses d from (let long = scores_length docs lists in omega (arith, long, inside)) some (omega (arith, at, parts, back, front, most))

  -- a document that doesn't pass the threshold is passed over
  pub gone_by : (doc : ℕ) (best : Candidates) → HasMet docs lists doc best → doc < docs → score_in lists doc ≤ best.threshold → HasMet docs lists (doc + 1) best
  gone_by doc best met inside low =
      passed_over (scores_in docs lists) best.k doc (doc + 1) best.threshold best.hits.items met (omega arith) (λ d from below there some.
      let e : d ≡ doc = omega arith in let at = score_at docs lists d (omega arith) ∙ ap (score_in lists) e in met.misses d from there some (omega (arith, at, low)))

  -- documents of a window whose marks aren't set are passed over
  pub gone_on : (window doc next k : ℕ) (marks : ℕ) (best : Candidates) → HasMet docs lists doc best → best.k ≡ k → window ≤ doc → doc ≤ next → next ≤ window + 64
      → ((i : ℕ) → i < 64 → bit_at marks i ≡ 0 → IsPassed (scores_in docs lists) k (window + i)) → ((i : ℕ) → doc ≤ window + i → window + i < next → bit_at marks i ≡ 0) → HasMet docs lists next best
  gone_on window doc next k marks best met asked low on high unmarked none =
      passed_over (scores_in docs lists) best.k doc next best.threshold best.hits.items met on (λ d from below there.
      let e : window + (d - window) ≡ d = omega arith in
      subst (λ n. IsPassed (scores_in docs lists) n d) (sym asked) (subst (IsPassed (scores_in docs lists) k) e (unmarked (d - window) (omega arith) (none (d - window) (omega arith) (omega arith)))))
