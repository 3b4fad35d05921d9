use Rattle.std.proofs.Common.{◌-◌}
use Rattle.ciff_read.specs.KeptLists.{kept_in}
use Rattle.ciff_read.proofs.Rising.{LiesFrom}
use Rattle.ciff_read.proofs.kept_lists.KeptLists.found.Given as goal

abbrev pub invariant-loop-low : goal.invariant-loop-low
invariant-loop-low l = LiesFrom (kept_in l.self) l.at l.low l.high

abbrev pub decreases-loop-low : goal.decreases-loop-low
decreases-loop-low l = l.high - l.low
