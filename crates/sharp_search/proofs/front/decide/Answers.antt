use Rattle.shared_lemmas.proofs.Common.{◌∙◌, sym}
use Rattle.session_scores.specs.Scores.{scores_of}
use Rattle.sharp_search.proofs.Advancing.{decided}
use Rattle.sharp_search.proofs.front.decide.Goals as goal

pub returns : goal.returns
returns c plan has sums marked weights = c.is_settled.ensures ∙ decided c.args.n c.args.k c.rest_bound.result plan c.args.masks.now.masks c.args.weights.now (scores_of c.args.scores.now c.args.pool.now) marked weights sums
    (c.rest_bound.ensures ∙ sym (c.weights_are_those_of_the_plan.ensures.bound c.args.plan.now plan c.args.n has)) c.the_clear_bits_tell_what_is_unseen.ensures
