use Rattle.std.proofs.Common.{◌≡◌, ◌+◌, ◌<◌, ℕ, take}
use Rattle.std.specs.Int.{bit_at}
use Rattle.max_score.specs.Private.Lists.{score_in}
use Rattle.max_score.proofs.walk.marks.Given as goal

abbrev pub invariant-loop-list : goal.invariant-loop-list
invariant-loop-list l = (i : ℕ) → i < 64 → bit_at l.marks i ≡ 0 → score_in (take l.list-index l.lists) (l.from + i) ≡ 0
