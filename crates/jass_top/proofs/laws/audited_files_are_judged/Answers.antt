use Rattle.jass_top.proofs.JudgedAudit.{run_first, run_found, run_only, run_there, run_told, text_found, text_long, text_missed}
use Rattle.jass_top.proofs.AuditedSearch.{text_there}
use Rattle.jass_top.proofs.laws.audited_files_are_judged.Goals as goal

pub returns-clause-found : goal.returns-clause-found
returns-clause-found c = text_found

pub returns-clause-only : goal.returns-clause-only
returns-clause-only c = λ name content files there few. text_there name files content there few

pub returns-clause-too_long : goal.returns-clause-too_long
returns-clause-too_long c = text_long

pub returns-clause-missing : goal.returns-clause-missing
returns-clause-missing c = text_missed

pub returns-clause-run : goal.returns-clause-run
returns-clause-run c = run_found c.runs_are_read.ensures.only

pub returns-clause-only_run : goal.returns-clause-only_run
returns-clause-only_run c = run_only c.runs_are_read.ensures.run

pub returns-clause-refused : goal.returns-clause-refused
returns-clause-refused c = run_first

pub returns-clause-told : goal.returns-clause-told
returns-clause-told c = run_told

pub returns-clause-never_missing : goal.returns-clause-never_missing
returns-clause-never_missing c = run_there
