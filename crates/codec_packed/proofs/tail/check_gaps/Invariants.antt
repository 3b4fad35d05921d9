use Rattle.std.proofs.Common.{◌≡◌, ◌-◌, ◌≤◌, length, drop}
use Rattle.jass_base.specs.Gaps.{read_gaps}
use Rattle.codec_packed.specs.Private.Steps.{verdict}
use Rattle.codec_packed.proofs.tail.check_gaps.Given as goal

abbrev pub invariant-loop-turn : goal.invariant-loop-turn
invariant-loop-turn l = (verdict (read_gaps l.d l.fn.least l.count (drop l.fn.at l.bytes)) ≡ verdict (read_gaps l.d l.next (l.count - l._turn) (drop l.place l.bytes)))
    × (l.next ≤ l.d) × (l.place ≤ length l.bytes)
