use Rattle.std.proofs.Common.{◌-◌}
use Rattle.plain_codecs.proofs.Runs.{ReadSoFar}
use Rattle.plain_codecs.proofs.varbyte.runs.read_run.Given as goal

abbrev pub invariant-loop-filled : goal.invariant-loop-filled
invariant-loop-filled l = ReadSoFar l.bytes l.from l.count l.at l.filled l.out

abbrev pub decreases-loop-filled : goal.decreases-loop-filled
decreases-loop-filled l = l.count - l.filled
