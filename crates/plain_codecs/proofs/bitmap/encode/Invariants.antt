use Rattle.plain_codecs.proofs.Bytes.{Built}
use Rattle.plain_codecs.proofs.bitmap.encode.Given as goal

abbrev pub invariant-loop-place : goal.invariant-loop-place
invariant-loop-place l = Built l.docs l.place l.first l.fn.out l.out
