use Rattle.std.proofs.Common.{[]}
use Rattle.jass_top.specs.AuditMeaning.{judge_audited, judge_run}
use Rattle.jass_top.proofs.Behind.{unread_first}
use Rattle.jass_top.proofs.audit_input.open_run.Goals as goal

pub returns-in-Err-clause-unread : goal.returns-in-Err-clause-unread
returns-in-Err-clause-unread g c =
    unread_first c.args.name.now [] (judge_audited c.args.name.now (g.C.Cabinet.told c.args.files.now)) (judge_run c.args.name.now)
    (g.C.Cabinet.read_faults c.args.files.now) (g.C.Cabinet.read_faults c.open_text.new.files) c.in-Err.stop c.in-Err.ensures.unread
