-- Scores by document.
use Rattle.shared_lemmas.proofs.Common.{◌≡◌, ℕ, ◌<◌, List, [], ◌∷◌, map, length, take, get_or, replicate, refl, ap, ◌∙◌, arith, sum_by, range_with_len, length-range_with_len, get_or-map-range_with_len}
use Rattle.ranking_model.specs.declared.plan.QueryPlan.{QueryPlan}
use Rattle.ranking_model.specs.Scores.{gain_of, scores_after}

all_zero : (xs : List ℕ) → map {B = ℕ} (λ (x : ℕ). 0) xs ≡ replicate (length xs) 0
all_zero [] = refl
all_zero (x ∷ xs) = ap (λ (l : List ℕ). 0 ∷ l) (all_zero xs)

-- before anything is scored
pub zero_at_first : (plan : QueryPlan) → scores_after 0 plan ≡ replicate plan.docs 0
zero_at_first plan = all_zero (range_with_len 0 plan.docs) ∙ ap (λ n. replicate n 0) (length-range_with_len 0 plan.docs)

-- the score of a document
pub score_at : (plan : QueryPlan) (n d : ℕ) → d < plan.docs → get_or (scores_after n plan) d 0 ≡ sum_by (gain_of d) (take n plan.segments)
score_at plan n d inside = get_or-map-range_with_len (λ doc. sum_by (gain_of doc) (take n plan.segments)) 0 plan.docs d d 0 inside (omega arith)
