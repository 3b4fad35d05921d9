use Rattle.shared_lemmas.proofs.Common.{ℕ, suc, ◌≡◌, ◌+◌, ◌∙◌, ap, arith, drop, sum_by, range_with_len}
use Rattle.ranking_model.specs.Plan.{cutoff_after}
use Rattle.ranking_model.specs.Scores.{greatest_weight}
use Rattle.segment_plan.proofs.Alike.{alike_drop, alike_length, alike_greatest, alike_weight, no_weight}
use Rattle.segment_plan.proofs.laws.weights_are_those_of_the_plan.Goals as goal

pub returns-clause-bound : goal.returns-clause-bound
returns-clause-bound c = λ view plan n h. ap (λ m. sum_by (λ term_place. greatest_weight term_place (drop n plan.segments)) (range_with_len 0 m)) h.terms
    ∙ ap (λ (f : ℕ → ℕ). sum_by f (range_with_len 0 view.terms)) (λ i term_place. alike_greatest term_place (drop n plan.segments) (drop n view.entries) (alike_drop n plan.segments view.entries h.segments) i)

pub returns-clause-cutoff : goal.returns-clause-cutoff
returns-clause-cutoff c = λ view plan n entry h is. let one : n + 1 ≡ suc n = omega arith in ap (λ m. cutoff_after m plan.segments) one ∙ alike_weight n plan.segments view.entries entry h.segments is

pub returns-clause-next : goal.returns-clause-next
returns-clause-next c = λ view plan n entry h is. alike_weight n plan.segments view.entries entry h.segments is

pub returns-clause-end : goal.returns-clause-end
returns-clause-end c = λ view plan n h behind. no_weight n plan.segments (let same = alike_length plan.segments view.entries h.segments in omega arith)
