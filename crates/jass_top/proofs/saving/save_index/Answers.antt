use Rattle.shared_lemmas.proofs.Common.{[], Err, refl, ap, subst, inl, inr, arith, Appends}
use Rattle.jass_top.proofs.Below.{Totals, AppendsPrefix, index_data, index_text, SaveFault, Unwritten, Untouched, totals_line}
use Rattle.jass_top.specs.MakingMeaning.{made_output}
use Rattle.jass_top.proofs.JudgedFiles.{fits, too_large}
use Rattle.jass_top.proofs.Stopping.{ran_on_both, uncounted}
use Rattle.jass_top.proofs.saving.save_index.Goals as goal

pub returns-in-Err-TooLarge-clause-runs : goal.returns-in-Err-TooLarge-clause-runs
returns-in-Err-TooLarge-clause-runs g c = λ beside.
    let made = index_data c.args.index.now in
    let fault = subst (λ (f : SaveFault). Unwritten (index_text made) f) c.in-Err-TooLarge.field-0-is c.in-Err-TooLarge.ensures.fault in
    let kept = subst (λ (f : SaveFault). Untouched c.args.files.now c.write_index.new.files f) c.in-Err-TooLarge.field-0-is c.in-Err-TooLarge.ensures.untouched in
    ran_on_both refl refl refl refl refl refl (
      inl refl,
      inr (too_large c.args.input.now made c.in-Err-TooLarge.length fault.0 fault.1),
      record { told = ap g.C.Cabinet.told kept; written = refl; left = refl; steps = refl },
    )

pub returns-in-Err-WriteFault-clause-runs : goal.returns-in-Err-WriteFault-clause-runs
returns-in-Err-WriteFault-clause-runs g c = λ beside.
    let made = index_data c.args.index.now in
    let few = subst (λ (f : SaveFault). Unwritten (index_text made) f) c.in-Err-WriteFault.field-0-is c.in-Err-WriteFault.ensures.fault in
    ran_on_both refl refl refl refl refl refl (
      inr (refl, c.in-Err-WriteFault.ensures.cause (ap Err c.in-Err-WriteFault.field-0-is)),
      record {
        inputs = made;
        accepted = inr (fits c.args.input.now made few);
        stands = inl (record { content = c.in-Err-WriteFault.ensures.front; written = refl; steps = uncounted _ _ 0 refl });
      },
    )

pub returns-in-Ok-put_totals-clause-runs : goal.returns-in-Ok-put_totals-clause-runs
returns-in-Ok-put_totals-clause-runs g c = λ beside.
    let made = index_data c.args.index.now in
    ran_on_both refl refl refl refl refl c.in-Ok-put_totals.ensures.rest_stays (record {
      inputs = made;
      input = [];
      output = made_output made;
      accepted = inr (fits c.args.input.now made c.in-Ok.ensures.fits);
      had = λ feeds. cc;
      exact = refl;
      left = record {
        content = c.in-Ok.ensures.content;
        text = subst (λ (t : Totals). Appends (g.O.Sink.written c.args.out.now) (g.O.Sink.written c.put_totals.new.out) (totals_line t)) c.totals.ensures c.in-Ok-put_totals.ensures.bytes;
        steps = omega arith;
      };
    })

pub returns-in-Err-clause-runs : goal.returns-in-Err-clause-runs
returns-in-Err-clause-runs g c = λ beside.
    let made = index_data c.args.index.now in
    ran_on_both refl refl refl refl refl c.in-Err.ensures.rest_stays (
      inl (refl, refl, c.in-Err.ensures.cause.failed),
      record {
        inputs = made;
        accepted = inr (fits c.args.input.now made c.in-Ok.ensures.fits);
        stands = inr (record {
          content = c.in-Ok.ensures.content;
          text = subst (λ (t : Totals). AppendsPrefix (g.O.Sink.written c.args.out.now) (g.O.Sink.written c.put_totals.new.out) (totals_line t)) c.totals.ensures c.in-Err.ensures.bytes;
          steps = uncounted _ _ 0 refl;
        });
      },
    )
