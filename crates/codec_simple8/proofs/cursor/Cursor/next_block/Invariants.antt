use Rattle.std.proofs.Common.{◌≡◌, length}
use Rattle.codec_simple8.specs.Private.Cursor.{Moved}
use Rattle.codec_simple8.proofs.cursor.Cursor.next_block.Given as goal

abbrev pub invariant-loop-self : goal.invariant-loop-self
invariant-loop-self l = record {
  moved : Moved l.fn.self l.self l.bytes 0 l.filled l.fn.out l.out;
  long : length l.out ≡ 128;
}

abbrev pub decreases-loop-self : goal.decreases-loop-self
decreases-loop-self l = l.self.left
