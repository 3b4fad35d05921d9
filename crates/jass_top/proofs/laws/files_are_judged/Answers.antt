use Rattle.jass_top.proofs.Judged.{found, only, told, missed, refused}
use Rattle.jass_top.proofs.laws.files_are_judged.Goals as goal

pub returns-clause-found : goal.returns-clause-found
returns-clause-found c = found c.files_are_read.ensures.found

pub returns-clause-only : goal.returns-clause-only
returns-clause-only c = only c.files_are_read.ensures.only

pub returns-clause-told : goal.returns-clause-told
returns-clause-told c = told

pub returns-clause-missing : goal.returns-clause-missing
returns-clause-missing c = missed

pub returns-clause-refused : goal.returns-clause-refused
returns-clause-refused c = refused
