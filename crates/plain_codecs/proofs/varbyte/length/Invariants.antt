use Rattle.plain_codecs.proofs.Encoding.{CountedSoFar}
use Rattle.plain_codecs.proofs.varbyte.length.Given as goal

abbrev pub invariant-loop-doc : goal.invariant-loop-doc
invariant-loop-doc l = CountedSoFar l.docs l.doc-index l.least l.bytes
