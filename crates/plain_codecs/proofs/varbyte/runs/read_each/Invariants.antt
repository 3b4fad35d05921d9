use Rattle.plain_codecs.proofs.Runs.{EachSoFar}
use Rattle.plain_codecs.proofs.varbyte.runs.read_each.Given as goal

abbrev pub invariant-loop-place : goal.invariant-loop-place
invariant-loop-place l = EachSoFar l.bytes l.from l.first l.end l.at l.place l.fn.out l.out
