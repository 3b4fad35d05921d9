use Rattle.std.proofs.Common.{◌≡◌, ◌<◌, ℕ, max, drop, length, get_or}
use Rattle.ranking_model.specs.Scores.{greatest_weight}
use Rattle.run_audit.proofs.bound.raise_weights.Given as goal

abbrev pub invariant-loop-n : goal.invariant-loop-n
invariant-loop-n l = record {
  len : length l.weights ≡ length l.fn.weights;
  greatest : (term : ℕ) → term < length l.fn.weights → max (get_or l.weights term 0) (greatest_weight term (drop l.n l.segments)) ≡ greatest_weight term (drop l.from l.segments);
}
