use Rattle.std.proofs.Common.{◌≡◌, ◌≤◌, ◌-◌, take, length}
use Rattle.run_audit.proofs.place.agreeing.Given as goal

abbrev pub invariant-loop-count : goal.invariant-loop-count
invariant-loop-count l = record {
  first : l.count ≤ length l.first;
  second : l.count ≤ length l.second;
  before : take l.count l.first ≡ take l.count l.second;
}

abbrev pub decreases-loop-count : goal.decreases-loop-count
decreases-loop-count l = length l.first - l.count
