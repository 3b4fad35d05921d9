use Rattle.std.proofs.Common.{◌∙◌, ◌*◌, arith}
use Rattle.lane_kernels.specs.Bitmap.{set_bits}
use Rattle.session_scores.specs.Scores.{scores_of}
use Rattle.answer_tests.proofs.Rising.{fits_after, most_after}
use Rattle.answer_tests.proofs.scores.add_bits.Goals as goal

pub add_bits-requires-clause-fits : goal.add_bits-requires-clause-fits
add_bits-requires-clause-fits g c =
    fits_after c.args.w c.scored.inside.most c.most_after_bits-most.result (set_bits (128 * c.args.row) c.args.bits.now) (scores_of c.scored.inside.scores c.scored.inside.pool)
    c.most_after_bits-most.ensures.most (omega arith) c.scored.invariant.1.1.1

pub invariant_of-scored : goal.invariant_of-scored
invariant_of-scored g c = (
  c.add_bits.ensures.same.docs ∙ c.scored.invariant.0,
  (
    rw c.add_bits.ensures.same.chain (c.add_bits.ensures.leaves.promise ∙ c.scored.invariant.1.0),
    (
      c.add_bits.ensures.stand,
      most_after c.args.w c.scored.inside.most c.most_after_bits-most.result (set_bits (128 * c.args.row) c.args.bits.now) (scores_of c.scored.inside.scores c.scored.inside.pool) _
          c.most_after_bits-most.ensures.most c.add_bits.ensures.scores c.scored.invariant.1.1.1,
    ),
  ),
)
