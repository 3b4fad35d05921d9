use Rattle.std.proofs.Common.{◌+◌, [], refl, sym, inl, ◌∙◌, ap}
use Rattle.jass_top.specs.AuditMeaning.{audit_postings, verdict_line}
use Rattle.jass_top.specs.Meanings.{Output}
use Rattle.jass_top.specs.Private.Audits.{asked_by}
use Rattle.jass_top.specs.Private.Worlds.{with_files, with_output, with_steps}
use Rattle.jass_top.proofs.AuditRuns.{audited_exact, audited_postings}
use Rattle.jass_top.proofs.Stopping.{counted, ran_on_both}
use Rattle.jass_top.proofs.audit.run_audit_command.Goals as goal

pub returns-in-Ok-put_verdict-clause-runs : goal.returns-in-Ok-put_verdict-clause-runs
returns-in-Ok-put_verdict-clause-runs g c = λ beside.
    let had = c.in_ok-audited.ensures.accepted in
    let output : Output = record { content = []; text = verdict_line c.in-Ok.verdict; steps = audit_postings had.input } in
    ran_on_both refl refl refl refl refl c.in-Ok-put_verdict.ensures.rest_stays (record {
      inputs = had.input;
      input = [];
      output = output;
      accepted = had.accepted;
      had = λ feeds. cc;
      exact = audited_exact c.in_ok-audited.audited had.input had.holds (asked_by c.args.audit) c.in-Ok.verdict c.in-Ok.ensures.verdict;
      left = record {
        content = c.in_ok-audited.ensures.stays;
        text = c.in-Ok-put_verdict.ensures.bytes;
        steps = c.in-Ok.ensures.steps ∙ ap (λ n. c.args.steps.now + n) (sym (audited_postings c.in_ok-audited.audited had.input had.holds));
      };
    })

pub returns-in-Err-clause-runs : goal.returns-in-Err-clause-runs
returns-in-Err-clause-runs g c = λ beside.
    let had = c.in_ok-audited.ensures.accepted in
    let output : Output = record { content = []; text = verdict_line c.in-Ok.verdict; steps = audit_postings had.input } in
    let before = with_output g.O.Sink c.args.out.now (with_files g.C.Cabinet c.args.files.now (with_steps c.args.steps.now beside)) in
    let after = with_output g.O.Sink c.put_verdict.new.out (with_files g.C.Cabinet c.open_audit.new.files (with_steps c.verdict_on-verdict.new.steps beside)) in
    ran_on_both refl refl refl refl refl c.in-Err.ensures.rest_stays (
      inl (refl, refl, c.in-Err.ensures.cause.failed),
      record {
        inputs = had.input;
        accepted = had.accepted;
        stands = record {
          output = output;
          exact = audited_exact c.in_ok-audited.audited had.input had.holds (asked_by c.args.audit) c.in-Ok.verdict c.in-Ok.ensures.verdict;
          stands = record {
            told = c.in_ok-audited.ensures.stays;
            text = c.in-Err.ensures.bytes;
            steps = counted before after output.steps (c.in-Ok.ensures.steps ∙ ap (λ n. c.args.steps.now + n) (sym (audited_postings c.in_ok-audited.audited had.input had.holds)));
          };
        };
      },
    )
