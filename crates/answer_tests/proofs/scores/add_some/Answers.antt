use Rattle.std.proofs.Common.{◌∙◌, arith}
use Rattle.session_scores.specs.Scores.{scores_of}
use Rattle.answer_tests.proofs.Rising.{fits_after, most_after}
use Rattle.answer_tests.proofs.scores.add_some.Goals as goal

pub add_all-requires-clause-fits : goal.add_all-requires-clause-fits
add_all-requires-clause-fits g c =
    fits_after c.args.w c.scored.inside.most c.most_after-most.result c.args.docs.now (scores_of c.scored.inside.scores c.scored.inside.pool)
    c.most_after-most.ensures.most (omega arith) c.scored.invariant.1.1.1

pub invariant_of-scored : goal.invariant_of-scored
invariant_of-scored g c = (
  c.add_all.ensures.same.docs ∙ c.scored.invariant.0,
  (
    rw c.add_all.ensures.same.chain (c.add_all.ensures.leaves.promise ∙ c.scored.invariant.1.0),
    (
      c.add_all.ensures.stand,
      most_after c.args.w c.scored.inside.most c.most_after-most.result c.args.docs.now (scores_of c.scored.inside.scores c.scored.inside.pool) _
          c.most_after-most.ensures.most c.add_all.ensures.scores c.scored.invariant.1.1.1,
    ),
  ),
)
