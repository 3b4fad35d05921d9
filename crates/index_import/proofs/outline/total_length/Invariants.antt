use Rattle.std.proofs.Common.{◌≡◌, ◌≤◌, ◌^◌, ◌*◌, take, sum}
use Rattle.index_import.proofs.outline.total_length.Given as goal

abbrev pub invariant-loop-length : goal.invariant-loop-length
invariant-loop-length l = record {
  so_far : l.total ≡ sum (take l.length-index l.lengths);
  low : l.total ≤ l.length-index * 2 ^ 32;
}
