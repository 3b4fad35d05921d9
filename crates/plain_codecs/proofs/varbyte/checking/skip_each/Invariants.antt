use Rattle.std.proofs.Common.{◌-◌, ◌≤◌, ℕ, drop, length}
use Rattle.jass_base.specs.Gaps.{read_gaps}
use Rattle.plain_codecs.specs.Private.Runs.{Continues}
use Rattle.plain_codecs.proofs.varbyte.checking.skip_each.Given as goal

abbrev pub invariant-loop : goal.invariant-loop
invariant-loop l = record {
  reads : (left : ℕ) → l.count ≤ left → Continues (read_gaps l.d l.fn.from.least left (drop l.fn.from.at l.bytes)) (read_gaps l.d l.least (left - l.counter) (drop l.at l.bytes));
  low : l.least ≤ l.d;
  within : l.at ≤ length l.bytes;
}
