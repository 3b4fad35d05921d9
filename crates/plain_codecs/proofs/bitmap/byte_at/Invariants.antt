use Rattle.std.proofs.Common.{◌-◌, length}
use Rattle.plain_codecs.proofs.Bytes.{Gathered}
use Rattle.plain_codecs.proofs.bitmap.byte_at.Given as goal

abbrev pub invariant-loop-at : goal.invariant-loop-at
invariant-loop-at l = Gathered l.docs l.place l.at l.byte

abbrev pub decreases-loop-at : goal.decreases-loop-at
decreases-loop-at l = length l.docs - l.at
