use Rattle.std.proofs.Common.{◌∷◌, [], ◌≡◌, subst, ◌∙◌}
use Rattle.jass_top.specs.AuditMeaning.{judge_audited, judge_run}
use Rattle.jass_top.specs.Judging.{Accepted, Shows, behind}
use Rattle.jass_top.specs.QueryJudging.{without_lines}
use Rattle.jass_top.specs.SearchMeaning.{SearchInputs}
use Rattle.jass_top.specs.Private.Causes.{Unread}
use Rattle.jass_top.specs.Private.SearchRuns.{asked_of}
use Rattle.jass_top.proofs.JudgedAudit.{audit_had, reports_unhad, run_unhad}
use Rattle.jass_top.proofs.audit.open_audit.Goals as goal

pub returns-in-Err-clause-unread : goal.returns-in-Err-clause-unread
returns-in-Err-clause-unread g c =
    let a = c.args.audit in
    run_unhad a.index.now a.queries.now a.run.now a.reports.now a.asked.mode (g.C.Cabinet.told c.args.files.now)
    (λ (inputs : SearchInputs). (inputs.index ≡ c.in_ok-index.index.index) × (without_lines inputs.queries ≡ asked_of c.in_ok-index.queries)) c.in_ok-index.ensures.accepted
    (g.C.Cabinet.read_faults c.args.files.now) (g.C.Cabinet.read_faults c.open_search.new.files) c.in_ok-index.ensures.later (g.C.Cabinet.read_faults c.open_run.new.files) c.in-Err.stop
    (subst (λ told. Unread (a.run.now ∷ []) (behind (judge_audited a.run.now told) (judge_run a.run.now)) (g.C.Cabinet.read_faults c.open_search.new.files) (g.C.Cabinet.read_faults c.open_run.new.files) c.in-Err.stop)
    c.in_ok-index.ensures.stays c.in-Err.ensures.unread)

pub returns-in-Err-open_text-clause-unread : goal.returns-in-Err-open_text-clause-unread
returns-in-Err-open_text-clause-unread g c =
    let a = c.args.audit in
    reports_unhad a.index.now a.queries.now a.run.now a.reports.now a.asked.mode (g.C.Cabinet.told c.args.files.now)
    (λ (inputs : SearchInputs). (inputs.index ≡ c.in_ok-index.index.index) × (without_lines inputs.queries ≡ asked_of c.in_ok-index.queries)) c.in_ok-index.ensures.accepted
    (g.C.Cabinet.read_faults c.args.files.now) (g.C.Cabinet.read_faults c.open_search.new.files) c.in_ok-index.ensures.later c.in-Ok.run' (g.C.Cabinet.read_faults c.open_run.new.files)
    (g.C.Cabinet.read_faults c.open_text.new.files) c.in-Err-open_text.stop
    (subst (λ told. Shows (behind (judge_audited a.run.now told) (judge_run a.run.now)) (Accepted c.in-Ok.run')) c.in_ok-index.ensures.stays c.in-Ok.ensures.accepted)
    c.in-Ok.ensures.later
    (subst (λ told. Unread (a.reports.now ∷ []) (judge_audited a.reports.now told) (g.C.Cabinet.read_faults c.open_run.new.files) (g.C.Cabinet.read_faults c.open_text.new.files) c.in-Err-open_text.stop)
    (c.in-Ok.ensures.stays ∙ c.in_ok-index.ensures.stays) c.in-Err-open_text.ensures.unread)

pub returns-in-Ok-open_text-clause-accepted : goal.returns-in-Ok-open_text-clause-accepted
returns-in-Ok-open_text-clause-accepted g c =
    let a = c.args.audit in
    audit_had a.index.now a.queries.now a.run.now a.reports.now a.asked.mode (g.C.Cabinet.told c.args.files.now)
    (record { index = c.in_ok-index.index; queries = c.in_ok-index.queries; run = c.in-Ok.run'; reports = c.in-Ok-open_text.reports }) c.in_ok-index.ensures.accepted
    (subst (λ told. Shows (behind (judge_audited a.run.now told) (judge_run a.run.now)) (Accepted c.in-Ok.run')) c.in_ok-index.ensures.stays c.in-Ok.ensures.accepted)
    (subst (λ told. Shows (judge_audited a.reports.now told) (Accepted c.in-Ok-open_text.reports)) (c.in-Ok.ensures.stays ∙ c.in_ok-index.ensures.stays) c.in-Ok-open_text.ensures.accepted)
