use Rattle.std.proofs.Common.{◌∙◌, ◌∷◌, [], arith}
use Rattle.session_scores.specs.Scores.{scores_of}
use Rattle.answer_tests.proofs.Rising.{fits_after, most_after}
use Rattle.answer_tests.proofs.scores.add_one.Goals as goal

pub add-requires-clause-fits : goal.add-requires-clause-fits
add-requires-clause-fits g c =
    fits_after c.args.w c.scored.inside.most c.most_after-most.result (c.args.doc ∷ []) (scores_of c.scored.inside.scores c.scored.inside.pool)
    c.most_after-most.ensures.most (omega arith) c.scored.invariant.1.1.1

pub invariant_of-scored : goal.invariant_of-scored
invariant_of-scored g c = (
  c.add.ensures.same.docs ∙ c.scored.invariant.0,
  (
    rw c.add.ensures.same.chain (c.add.ensures.leaves.promise ∙ c.scored.invariant.1.0),
    (
      c.add.ensures.stand,
      most_after c.args.w c.scored.inside.most c.most_after-most.result (c.args.doc ∷ []) (scores_of c.scored.inside.scores c.scored.inside.pool) _
          c.most_after-most.ensures.most c.add.ensures.scores c.scored.invariant.1.1.1,
    ),
  ),
)
