use Rattle.shared_lemmas.proofs.Common.{◌≡◌, ◌∙◌, drop, length, arith, sym}
use Rattle.ranking_model.specs.Scores.{greatest_weight}
use Rattle.run_audit.proofs.Bounds.{sum_of_all}
use Rattle.run_audit.proofs.bound.bound_of.Goals as goal

pub sum_of-requires : goal.sum_of-requires
sum_of-requires c = record {
  fits = omega (
    arith,
    c.requires.fits,
    sum_of_all (λ term. greatest_weight term (drop c.args.from c.args.segments.now)) c.raise_weights.new.weights (length c.args.weights.now) c.raise_weights.ensures.len
        (λ i h. c.raise_weights.ensures.greatest i (omega (arith, c.raise_weights.ensures.len))),
  );
}

pub returns : goal.returns
returns c = c.sum_of.ensures ∙ sum_of_all (λ term. greatest_weight term (drop c.args.from c.args.segments.now)) c.raise_weights.new.weights (length c.args.weights.now) c.raise_weights.ensures.len
    (λ i h. c.raise_weights.ensures.greatest i (omega (arith, c.raise_weights.ensures.len)))
