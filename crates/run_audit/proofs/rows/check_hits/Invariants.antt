use Rattle.std.proofs.Common.{◌≡◌, ◌+◌, ◌≤◌, drop, length}
use Rattle.run_audit.specs.Private.Places.{AdvancesTo}
use Rattle.run_audit.specs.Rows.{hit_rows}
use Rattle.run_audit.proofs.rows.check_hits.Given as goal

abbrev pub invariant-loop-hit : goal.invariant-loop-hit
invariant-loop-hit l = record {
  rank : l.rank ≡ l.hit-index + 1;
  within : l.place.at ≤ length l.run;
  advances : AdvancesTo l.run l.fn.place l.place (hit_rows l.index.index.names l.id l.tag 1 l.hits) (hit_rows l.index.index.names l.id l.tag l.rank (drop l.hit-index l.hits));
}
