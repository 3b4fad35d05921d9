use Rattle.std.proofs.Common.{◌≡◌, ◌+◌, ◌*◌, length, sum, take, drop, replicate}
use Rattle.lane_kernels.specs.Gaps.{running}
use Rattle.lane_kernels.proofs.gaps.running128.Given as goal

abbrev pub invariant-loop-row : goal.invariant-loop-row
invariant-loop-row l = record {
  same : length l.gaps ≡ 128;
  least : l.least ≡ replicate 4 (l.before + sum (take (4 * l.row) l.fn.gaps) + 4 * l.row);
  done : take (4 * l.row) l.gaps ≡ running l.before (take (4 * l.row) l.fn.gaps);
  rest : drop (4 * l.row) l.gaps ≡ drop (4 * l.row) l.fn.gaps;
}
