use Rattle.shared_lemmas.proofs.Common.{[], refl, subst, inl, arith, Appends}
use Rattle.jass_top.proofs.Below.{Totals, AppendsPrefix, totals_line}
use Rattle.jass_top.specs.CheckMeaning.{totals_output}
use Rattle.jass_top.proofs.Stopping.{ran_on_both, uncounted}
use Rattle.jass_top.proofs.check.run_check.Goals as goal

pub returns-in-Ok-clause-runs : goal.returns-in-Ok-clause-runs
returns-in-Ok-clause-runs g c = λ beside.
    let view = c.in_ok-totals.ensures.accepted.0 in
    ran_on_both refl refl refl refl refl c.in-Ok.ensures.rest_stays (record {
      inputs = view;
      input = [];
      output = totals_output view;
      accepted = c.in_ok-totals.ensures.accepted.2;
      had = λ feeds. cc;
      exact = refl;
      left = record {
        content = c.in_ok-totals.ensures.stays;
        text = subst (λ (t : Totals). Appends (g.O.Sink.written c.args.out.now) (g.O.Sink.written c.put_totals.new.out) (totals_line t)) c.in_ok-totals.ensures.accepted.1 c.in-Ok.ensures.bytes;
        steps = omega arith;
      };
    })

pub returns-in-Err-clause-runs : goal.returns-in-Err-clause-runs
returns-in-Err-clause-runs g c = λ beside.
    let view = c.in_ok-totals.ensures.accepted.0 in
    ran_on_both refl refl refl refl refl c.in-Err.ensures.rest_stays (
      inl (refl, refl, c.in-Err.ensures.cause.failed),
      record {
        inputs = view;
        accepted = c.in_ok-totals.ensures.accepted.2;
        stands = record {
          told = c.in_ok-totals.ensures.stays;
          text = subst (λ (t : Totals). AppendsPrefix (g.O.Sink.written c.args.out.now) (g.O.Sink.written c.put_totals.new.out) (totals_line t)) c.in_ok-totals.ensures.accepted.1 c.in-Err.ensures.bytes;
          steps = uncounted _ _ 0 refl;
        };
      },
    )
