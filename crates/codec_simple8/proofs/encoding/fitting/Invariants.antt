use Rattle.std.proofs.Common.{◌≤◌, ◌-◌, drop}
use Rattle.jass_base.specs.Gaps.{gaps_of}
use Rattle.codec_simple8.proofs.Trying.{Fitting}
use Rattle.codec_simple8.proofs.encoding.fitting.Given as goal

abbrev pub invariant-loop-seen : goal.invariant-loop-seen
invariant-loop-seen l = record {
  some : 1 ≤ l.seen;
  most : l.seen ≤ l.left;
  fitting : Fitting (drop l.at (gaps_of l.docs)) l.seen l.bits;
}

abbrev pub decreases-loop-seen : goal.decreases-loop-seen
decreases-loop-seen l = l.left - l.seen
