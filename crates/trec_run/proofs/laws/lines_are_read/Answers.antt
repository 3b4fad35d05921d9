use Rattle.trec_run.proofs.Accepting.{line_read, line_only}
use Rattle.trec_run.proofs.laws.lines_are_read.Goals as goal

pub returns-clause-line : goal.returns-clause-line
returns-clause-line c = line_read

pub returns-clause-only : goal.returns-clause-only
returns-clause-only c = line_only
