use Rattle.query_reader.proofs.QueryLaws.{query-read, query-only}
use Rattle.query_reader.proofs.laws.queries_are_read.Goals as goal

pub returns-clause-read : goal.returns-clause-read
returns-clause-read c = query-read

pub returns-clause-only : goal.returns-clause-only
returns-clause-only c = query-only
