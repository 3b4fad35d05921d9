-- Where nothing is left to score, the bound is 0.
use Rattle.shared_lemmas.proofs.Common.{◌≡◌, ℕ, ◌≤◌, List, [], ◌∷◌, length, sum_by, refl, ap, ◌∙◌, arith, range_with_len, sum_by-cons, drop_of_length-le}
use Rattle.ranking_model.specs.declared.plan_segment.PlanSegment.{PlanSegment}
use Rattle.ranking_model.specs.declared.plan.QueryPlan.{QueryPlan}
use Rattle.ranking_model.specs.Scores.{greatest_weight, bound_after, scores_after}
use Rattle.final_certificate.proofs.Deciding.{settled_at_zero}
use Rattle.final_certificate.proofs.laws.everything_scored_is_final.Goals as goal

nothing : (terms : List ℕ) → sum_by (λ term_place. greatest_weight term_place []) terms ≡ 0
nothing [] = refl
nothing (p ∷ ps) = let a = sum_by-cons (λ term_place. greatest_weight term_place []) p ps in let b = nothing ps in omega arith

no_bound : (n : ℕ) (plan : QueryPlan) → length plan.segments ≤ n → bound_after n plan ≡ 0
no_bound n plan all = ap (λ (segments : List PlanSegment). sum_by (λ term_place. greatest_weight term_place segments) (range_with_len 0 plan.terms)) (drop_of_length-le plan.segments all) ∙ nothing (range_with_len 0 plan.terms)

pub returns : goal.returns
returns c = λ n k plan all. settled_at_zero (scores_after n plan) k (bound_after n plan) (no_bound n plan all)
