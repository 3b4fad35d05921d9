use Rattle.std.proofs.Common.{◌≡◌}
use Rattle.ranking_model.specs.Plan.{size_of_first}
use Rattle.ranking_model.proofs.prefix.size_of_first.Given as goal

abbrev pub invariant-loop-segment : goal.invariant-loop-segment
invariant-loop-segment l = l.size ≡ size_of_first l.segment-index l.segments
