use Rattle.std.proofs.Common.{◌-◌, List, ℕ, length}
use Rattle.plain_codecs.specs.BitmapCursor.{Gives}
use Rattle.plain_codecs.proofs.bitmap.cursor.Cursor.next_block.Given as goal

abbrev pub invariant-loop-self : goal.invariant-loop-self
invariant-loop-self l = (docs : List ℕ) → Gives l.fn.self l.bytes docs → Gives l.self l.bytes docs

abbrev pub decreases-loop-self : goal.decreases-loop-self
decreases-loop-self l = length l.bytes - l.self.at
