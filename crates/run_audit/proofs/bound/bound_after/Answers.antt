use Rattle.shared_lemmas.proofs.Common.{◌≡◌, ◌<◌, ◌^◌, ℕ, drop, length, sym, subst, ◌∙◌, sum_by, range_with_len, arith}
use Rattle.ranking_model.specs.Scores.{greatest_weight}
use Rattle.run_audit.proofs.bound.bound_after.Goals as goal

pub bound_of-requires-clause-fits : goal.bound_of-requires-clause-fits
bound_of-requires-clause-fits c =
    let long : c.args.plan.now.terms ≡ length c.deref_mut.result.now = omega (arith, c.deref_mut.ensures.len, c.in-Ok.ensures.len) in
    subst (λ (n : ℕ). n < 2 ^ 32) (λ i. sum_by (λ term. greatest_weight term (drop c.args.count (sym c.as_slice.ensures i))) (range_with_len 0 (long i))) (c.requires.small.bounds c.args.count)
