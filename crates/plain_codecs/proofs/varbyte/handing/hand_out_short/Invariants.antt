use Rattle.std.proofs.Common.{◌≡◌, ◌*◌, ◌≤◌, ℕ, length, take}
use Rattle.plain_codecs.proofs.Handing.{Handed}
use Rattle.plain_codecs.proofs.varbyte.handing.hand_out_short.Given as goal

abbrev pub invariant-docs : goal.invariant-docs
invariant-docs l = record {
  handed : (end : ℕ) → l.at ≤ end → end ≤ length l.bytes → Handed l.d l.count (take end l.bytes) l.fn.out l.out l.at l.least l.i;
  few : l.at ≤ 3 * l.i;
  low : l.least ≤ l.d;
  long : length l.out ≡ length l.fn.out;
}
