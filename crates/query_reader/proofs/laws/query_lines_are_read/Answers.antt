use Rattle.query_reader.proofs.QueryLaws.{line-is, line-only}
use Rattle.query_reader.proofs.laws.query_lines_are_read.Goals as goal

pub returns-clause-read : goal.returns-clause-read
returns-clause-read c = line-is

pub returns-clause-only : goal.returns-clause-only
returns-clause-only c = line-only
