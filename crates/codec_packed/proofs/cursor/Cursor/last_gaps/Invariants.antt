use Rattle.std.proofs.Common.{◌≡◌, ◌+◌, ℕ, List, length, take, drop}
use Rattle.codec_packed.specs.Giving.{Gives}
use Rattle.codec_packed.proofs.cursor.Cursor.last_gaps.Given as goal

abbrev pub invariant-loop-i : goal.invariant-loop-i
invariant-loop-i l = (length l.out ≡ 128) × (l.self.left + l.i ≡ l.fn.self.left)
    × ((docs : List ℕ) → Gives l.fn.self l.bytes docs → Gives l.self l.bytes (drop l.i docs))
    × ((docs : List ℕ) → Gives l.fn.self l.bytes docs → take l.i l.out ≡ take l.i docs)
