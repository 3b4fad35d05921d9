use Rattle.jass_top.proofs.Judged.{content_found, content_only, content_told, content_missed, content_unrefused}
use Rattle.jass_top.proofs.laws.contents_are_judged.Goals as goal

pub returns-clause-found : goal.returns-clause-found
returns-clause-found c = content_found

pub returns-clause-only : goal.returns-clause-only
returns-clause-only c = content_only

pub returns-clause-told : goal.returns-clause-told
returns-clause-told c = content_told

pub returns-clause-missing : goal.returns-clause-missing
returns-clause-missing c = content_missed

pub returns-clause-never_refused : goal.returns-clause-never_refused
returns-clause-never_refused c = content_unrefused
