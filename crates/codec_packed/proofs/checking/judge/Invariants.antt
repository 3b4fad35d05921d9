use Rattle.std.proofs.Common.{◌≡◌, ◌-◌, ◌/◌, ◌%◌, ◌≤◌, length, drop}
use Rattle.codec_packed.specs.Reading.{read_blocks, read_packed}
use Rattle.codec_packed.specs.Private.Steps.{verdict}
use Rattle.codec_packed.proofs.checking.judge.Given as goal

abbrev pub invariant-loop-turn : goal.invariant-loop-turn
invariant-loop-turn l = (verdict (read_packed l.d l.count l.bytes) ≡ verdict (read_blocks l.d l.least (l.count / 128 - l._turn) (l.count % 128) (drop l.at l.bytes)))
    × (l.at ≤ length l.bytes) × (l.least ≤ l.d)
