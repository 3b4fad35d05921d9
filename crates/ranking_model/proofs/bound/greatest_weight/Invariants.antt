use Rattle.std.proofs.Common.{◌≡◌, max, drop}
use Rattle.ranking_model.specs.Scores.{greatest_weight}
use Rattle.ranking_model.proofs.bound.greatest_weight.Given as goal

abbrev pub invariant-loop-segment : goal.invariant-loop-segment
invariant-loop-segment l = max l.greatest (greatest_weight l.term_place (drop l.segment-index l.segments)) ≡ greatest_weight l.term_place l.segments
