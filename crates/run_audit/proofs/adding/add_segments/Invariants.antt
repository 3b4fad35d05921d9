use Rattle.std.proofs.Common.{◌≡◌, ◌<◌, ℕ, take, length, get_or, sum_by}
use Rattle.ranking_model.specs.Scores.{gain_of}
use Rattle.run_audit.proofs.adding.add_segments.Given as goal

abbrev pub invariant-loop-n : goal.invariant-loop-n
invariant-loop-n l = record {
  length : length l.scores ≡ l.plan.docs;
  each : (d : ℕ) → d < l.plan.docs → get_or l.scores d 0 ≡ sum_by (gain_of d) (take l.n l.plan.segments);
}
