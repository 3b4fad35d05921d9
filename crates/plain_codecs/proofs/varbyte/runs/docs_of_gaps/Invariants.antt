use Rattle.plain_codecs.proofs.Docs.{MadeSoFar}
use Rattle.plain_codecs.proofs.varbyte.runs.docs_of_gaps.Given as goal

abbrev pub invariant-loop-place : goal.invariant-loop-place
invariant-loop-place l = MadeSoFar l.least l.place l.next l.fn.out l.out
