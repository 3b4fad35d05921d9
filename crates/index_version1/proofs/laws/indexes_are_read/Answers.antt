use Rattle.index_version1.proofs.Indexes.{index_found, index_only}
use Rattle.index_version1.proofs.laws.indexes_are_read.Goals as goal

pub returns-clause-found : goal.returns-clause-found
returns-clause-found c = index_found c.old_files_are_read.ensures.found

pub returns-clause-only : goal.returns-clause-only
returns-clause-only c = index_only c.old_files_are_read.ensures.only
