use Rattle.std.proofs.Common.{◌≡◌, ◌+◌, ◌-◌, ◌≤◌, length}
use Rattle.impact_segments.specs.Private.ImpactTable.{AreImpactsOf}
use Rattle.impact_segments.proofs.impact_table.impacts_in.Given as goal

abbrev pub invariant-weights : goal.invariant-weights
invariant-weights l = record {
  are : AreImpactsOf l.bits l.range.least l.range.greatest l.impacts.items;
  place : l.weight ≡ l.range.least + length l.impacts.items;
  some : 1 ≤ l.weight;
}

abbrev pub decreases-weights : goal.decreases-weights
decreases-weights l = l.range.greatest + 1 - l.weight
