use Rattle.shared_lemmas.proofs.Common.{◌∙◌, arith}
use Rattle.max_score.proofs.walk.walk.Goals as goal

pub rest-preserved : goal.rest-preserved
rest-preserved c =
    let below = c.rest-test.true in
    record {
      met = c.consider.ensures.met c.args.docs (omega (arith, below)) c.rest.invariant.met;
      room = c.consider.ensures.room;
      k = c.consider.ensures.k ∙ c.rest.invariant.k;
      inside = omega (arith, below);
    }
