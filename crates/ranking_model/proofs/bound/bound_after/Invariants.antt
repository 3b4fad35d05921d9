use Rattle.shared_lemmas.proofs.Common.{◌≡◌, sum_by, drop, range_with_len}
use Rattle.ranking_model.specs.Scores.{greatest_weight}
use Rattle.ranking_model.proofs.bound.bound_after.Given as goal

abbrev pub invariant-loop-term_place : goal.invariant-loop-term_place
invariant-loop-term_place l = l.bound ≡ sum_by (λ term_place. greatest_weight term_place (drop l.count l.plan.segments)) (range_with_len 0 l.term_place)
