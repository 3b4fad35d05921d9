-- The rest of the script gets shorter.
use Rattle.std.proofs.Common.{length}
use Rattle.answer_tests.proofs.desks.answer_lines.Given as goal

abbrev pub decreases-loop-end : goal.decreases-loop-end
decreases-loop-end g l = length l.rest
