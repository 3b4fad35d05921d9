use Rattle.std.proofs.Common.{◌≡◌, ◌<◌, ℕ, take, length, get_or, sum_by}
use Rattle.ranking_model.specs.Scores.{gain_of}
use Rattle.ranking_model.proofs.scores.scores_after.Given as goal

abbrev pub invariant-loop-segment : goal.invariant-loop-segment
invariant-loop-segment l = record {
  length : length l.scores.items ≡ l.plan.docs;
  each : (d : ℕ) → d < l.plan.docs → get_or l.scores.items d 0 ≡ sum_by (gain_of d) (take l.segment-index l.plan.segments);
}
