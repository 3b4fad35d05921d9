use Rattle.std.proofs.Common.{◌≤◌, drop, length}
use Rattle.jass_base.specs.Gaps.{read_gaps}
use Rattle.plain_codecs.specs.Private.Runs.{Continues}
use Rattle.plain_codecs.proofs.varbyte.checking.judge.Given as goal

abbrev pub invariant-loop-left : goal.invariant-loop-left
invariant-loop-left l = record {
  reads : Continues (read_gaps l.d 0 l.count l.bytes) (read_gaps l.d l.place.least l.left (drop l.place.at l.bytes));
  low : l.place.least ≤ l.d;
  within : l.place.at ≤ length l.bytes;
}

abbrev pub decreases-loop-left : goal.decreases-loop-left
decreases-loop-left l = l.left
