use Rattle.std.proofs.Common.{◌≡◌, ◌≤◌, length, drop}
use Rattle.max_score.specs.Private.Lists.{score_in}
use Rattle.max_score.proofs.walk.score_of.Given as goal

abbrev pub invariant-lists : goal.invariant-lists
invariant-lists l = (l.left ≤ length l.lists) × (l.score ≡ score_in (drop l.left l.lists) l.doc)

abbrev pub decreases-lists : goal.decreases-lists
decreases-lists l = l.left
