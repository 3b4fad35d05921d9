use Rattle.std.proofs.Common.{◌≤◌, ◌-◌, length, take}
use Rattle.max_score.specs.Private.Lists.{most_of}
use Rattle.max_score.proofs.walk.essential.Given as goal

abbrev pub invariant-lists : goal.invariant-lists
invariant-lists l = (l.first ≤ length l.lists) × (most_of (take l.first l.lists) ≤ l.threshold)

abbrev pub decreases-lists : goal.decreases-lists
decreases-lists l = length l.lists - l.first
