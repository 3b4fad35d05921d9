use Rattle.std.specs.Prelude.{◌≤◌, take}
use Rattle.plain_codecs.proofs.Encoding.{PutSoFar}
use Rattle.plain_codecs.specs.declared.varbyte.spelling.TheConstants.{ROOM}
use Rattle.plain_codecs.proofs.varbyte.encode.Given as goal

abbrev pub invariant-loop-doc : goal.invariant-loop-doc
invariant-loop-doc l = PutSoFar l.docs l.doc-index l.least l.fn.out l.out (take l.len l.bytes) × (l.len ≤ ROOM)
