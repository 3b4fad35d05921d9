use Rattle.query_reader.proofs.QueryLaws.{file-is, file-only}
use Rattle.query_reader.proofs.laws.query_files_are_read.Goals as goal

pub returns-clause-read : goal.returns-clause-read
returns-clause-read c = file-is

pub returns-clause-only : goal.returns-clause-only
returns-clause-only c = file-only
