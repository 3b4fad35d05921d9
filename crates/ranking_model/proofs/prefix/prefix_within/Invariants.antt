use Rattle.std.proofs.Common.{◌≡◌, ◌+◌}
use Rattle.ranking_model.specs.Plan.{size_of_first}
use Rattle.ranking_model.proofs.prefix.prefix_within.Given as goal

abbrev pub invariant-loop-count : goal.invariant-loop-count
invariant-loop-count l = l.left + size_of_first l.count l.segments ≡ l.budget
