use Rattle.jass_top.proofs.JudgedQueries.{queries_found, queries_only, queries_told, queries_there, queries_refused}
use Rattle.jass_top.proofs.laws.query_files_are_judged.Goals as goal

pub returns-clause-found : goal.returns-clause-found
returns-clause-found c = queries_found c.query_files_are_read.ensures.read

pub returns-clause-only : goal.returns-clause-only
returns-clause-only c = queries_only c.query_files_are_read.ensures.only

pub returns-clause-told : goal.returns-clause-told
returns-clause-told c = queries_told

pub returns-clause-never_missing : goal.returns-clause-never_missing
returns-clause-never_missing c = queries_there

pub returns-clause-refused : goal.returns-clause-refused
returns-clause-refused c = queries_refused
