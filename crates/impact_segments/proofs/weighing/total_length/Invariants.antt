use Rattle.std.proofs.Common.{◌≡◌, ◌*◌, ◌≤◌, ◌^◌, take, sum}
use Rattle.impact_segments.specs.Private.Weighed.{lengths_in}
use Rattle.impact_segments.proofs.weighing.total_length.Given as goal

abbrev pub invariant-loop-doc : goal.invariant-loop-doc
invariant-loop-doc l = record {
  value : l.total ≡ sum (lengths_in (take l.doc-index l.docs));
  small : l.total ≤ l.doc-index * 2 ^ 31;
}
