-- The documents of an answer are those of the index.
use Rattle.shared_lemmas.proofs.Common.{◌≡◌, ℕ, ◌+◌, ◌<◌, ◌≤◌, ◌==◌, Bool, true, false, List, [], ◌∷◌, length, take, sum_by, if◌then◌else◌, subst, arith, All, AllByRecursion, length-map-range_with_len, All-from_recursion}
use Rattle.shared_lemmas.proofs.Lists.{all_take}
use Rattle.jass_base.specs.declared.answer.Hit.{Hit}
use Rattle.ranking_model.specs.Order.{sorted}
use Rattle.ranking_model.specs.declared.plan.QueryPlan.{QueryPlan}
use Rattle.ranking_model.specs.Scores.{gain_of, hits_from, rank_cmp, first_ranked, scores_after, top_k}
use Rattle.ranking_model.proofs.Sorting.{all_sorted}

hits_below : (limit doc : ℕ) (scores : List ℕ) → doc + length scores ≤ limit → AllByRecursion (λ (hit : Hit). hit.doc < limit) (hits_from doc scores)
hits_below limit doc [] within = tt
hits_below limit doc (score ∷ scores) within = step (score == 0) (hits_below limit (doc + 1) scores (omega arith)) where
  step : (b : Bool) → AllByRecursion (λ (hit : Hit). hit.doc < limit) (hits_from (doc + 1) scores) → AllByRecursion (λ (hit : Hit). hit.doc < limit) (if b then hits_from (doc + 1) scores else record { doc = doc; score = score } ∷ hits_from (doc + 1) scores)
  step true rest = rest
  step false rest = (omega arith, rest)

pub ranked_below : (scores : List ℕ) (m : ℕ) → AllByRecursion (λ (hit : Hit). hit.doc < length scores) (first_ranked scores m)
ranked_below scores m = all_take (λ (hit : Hit). hit.doc < length scores) m (sorted rank_cmp (hits_from 0 scores)) (all_sorted rank_cmp (λ (hit : Hit). hit.doc < length scores) (hits_from 0 scores) (hits_below (length scores) 0 scores (omega arith)))

-- there is a score for each document
pub scores_all : (n : ℕ) (plan : QueryPlan) → length (scores_after n plan) ≡ plan.docs
scores_all n plan = length-map-range_with_len (λ doc. sum_by (gain_of doc) (take n plan.segments)) 0 plan.docs

pub answer_below : (n : ℕ) (plan : QueryPlan) (k : ℕ) → All (λ (hit : Hit). hit.doc < plan.docs) (top_k n plan k)
answer_below n plan k =
    All-from_recursion (λ (hit : Hit). hit.doc < plan.docs) (top_k n plan k) (subst (λ limit. AllByRecursion (λ (hit : Hit). hit.doc < limit) (top_k n plan k)) (scores_all n plan) (ranked_below (scores_after n plan) k))
