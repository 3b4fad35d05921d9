use Rattle.std.proofs.Common.{◌-◌, ◌≤◌, ◌<◌, ◌+◌, length, get_or}
use Rattle.segment_plan.proofs.tables.longest.Given as goal

abbrev pub invariant-loop-low : goal.invariant-loop-low
invariant-loop-low l = (l.low ≤ l.high) × (l.high < length l.sums) × (get_or l.sums l.low 0 ≤ l.start + l.left) × (l.high + 1 < length l.sums → l.start + l.left < get_or l.sums (l.high + 1) 0)

abbrev pub decreases-loop-low : goal.decreases-loop-low
decreases-loop-low l = l.high - l.low
