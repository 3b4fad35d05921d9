use Rattle.shared_lemmas.proofs.Common.{[], Err, refl, ap, sym, subst, inl, inr, arith, Appends}
use Rattle.jass_top.proofs.Below.{Totals, AppendsPrefix, Imports, ImportFault, totals_line}
use Rattle.jass_top.specs.declared.stop.Place.TheVariants.{Byte}
use Rattle.jass_top.specs.Judging.{Refuses, Shows}
use Rattle.jass_top.specs.MakingMeaning.{made_output}
use Rattle.jass_top.specs.Private.Worlds.{with_files, with_output}
use Rattle.jass_top.proofs.Imported.{accepted, judge_import, larger, refused, stands, unread}
use Rattle.jass_top.proofs.Stopping.{ran_on_both, uncounted}
use Rattle.jass_top.proofs.import.run_import.Goals as goal

pub returns-in-Err-Refused-clause-runs : goal.returns-in-Err-Refused-clause-runs
returns-in-Err-Refused-clause-runs g c = λ beside.
    let told = g.C.Cabinet.told c.args.files.now in
    let is = subst (λ (f : ImportFault). Imports told (g.C.Cabinet.told c.import_file.new.files) c.args.ciff.now c.args.index.now c.args.rule c.args.bits (Err f)) c.in-Err-Refused.field-0-is c.in-Err-Refused.ensures.imported in
    ran_on_both refl refl refl refl refl refl (
      inl refl,
      subst (λ n. Shows (judge_import c.args.ciff.now c.args.rule c.args.bits told) (Refuses c.args.ciff.now n (Byte c.in-Err-Refused.refusal.at))) (sym c.number.ensures)
          (refused c.args.ciff.now c.args.rule c.args.bits told c.in-Err-Refused.refusal is.0),
      record { told = is.1; written = refl; left = refl; steps = refl },
    )

pub returns-in-Err-ReadFault-clause-runs : goal.returns-in-Err-ReadFault-clause-runs
returns-in-Err-ReadFault-clause-runs g c = λ beside.
    let told = g.C.Cabinet.told c.args.files.now in let now = g.C.Cabinet.told c.import_file.new.files in
    let is = subst (λ (f : ImportFault). Imports told now c.args.ciff.now c.args.index.now c.args.rule c.args.bits (Err f)) c.in-Err-ReadFault.field-0-is c.in-Err-ReadFault.ensures.imported in
    ran_on_both refl refl refl refl refl refl (inl (record {
      input = inl refl;
      cause = unread c.args.ciff.now c.args.rule c.args.bits told (g.C.Cabinet.read_faults c.args.files.now) (g.C.Cabinet.read_faults c.import_file.new.files) (c.in-Err-ReadFault.ensures.read_fault (ap Err c.in-Err-ReadFault.field-0-is));
      stands = stands c.args.ciff.now c.args.rule c.args.bits c.args.index.now
          (with_output g.O.Sink c.args.out.now (with_files g.C.Cabinet c.args.files.now beside)) (with_output g.O.Sink c.args.out.now (with_files g.C.Cabinet c.import_file.new.files beside)) refl refl refl is;
    }))

pub returns-in-Err-TooLarge-clause-runs : goal.returns-in-Err-TooLarge-clause-runs
returns-in-Err-TooLarge-clause-runs g c = λ beside.
    let told = g.C.Cabinet.told c.args.files.now in
    let is = subst (λ (f : ImportFault). Imports told (g.C.Cabinet.told c.import_file.new.files) c.args.ciff.now c.args.index.now c.args.rule c.args.bits (Err f)) c.in-Err-TooLarge.field-0-is c.in-Err-TooLarge.ensures.imported in
    ran_on_both refl refl refl refl refl refl (
      inl refl,
      larger c.args.ciff.now c.args.rule c.args.bits told is.0 c.in-Err-TooLarge.length is.1 is.2 is.3,
      record { told = is.4; written = refl; left = refl; steps = refl },
    )

pub returns-in-Err-WriteFault-clause-runs : goal.returns-in-Err-WriteFault-clause-runs
returns-in-Err-WriteFault-clause-runs g c = λ beside.
    let told = g.C.Cabinet.told c.args.files.now in
    let is = subst (λ (f : ImportFault). Imports told (g.C.Cabinet.told c.import_file.new.files) c.args.ciff.now c.args.index.now c.args.rule c.args.bits (Err f)) c.in-Err-WriteFault.field-0-is c.in-Err-WriteFault.ensures.imported in
    ran_on_both refl refl refl refl refl refl (
      inr (refl, c.in-Err-WriteFault.ensures.write_fault (ap Err c.in-Err-WriteFault.field-0-is)),
      record {
        inputs = is.0;
        accepted = accepted c.args.ciff.now c.args.rule c.args.bits told is.0 is.1 is.2;
        stands = inl (record { content = is.3; written = refl; steps = uncounted _ _ 0 refl });
      },
    )

pub returns-in-Err-NoMemory-clause-runs : goal.returns-in-Err-NoMemory-clause-runs
returns-in-Err-NoMemory-clause-runs g c = λ beside.
    let told = g.C.Cabinet.told c.args.files.now in let now = g.C.Cabinet.told c.import_file.new.files in
    let is = subst (λ (f : ImportFault). Imports told now c.args.ciff.now c.args.index.now c.args.rule c.args.bits (Err f)) c.in-Err-NoMemory.field-0-is c.in-Err-NoMemory.ensures.imported in
    ran_on_both refl refl refl refl refl refl (stands c.args.ciff.now c.args.rule c.args.bits c.args.index.now
    (with_output g.O.Sink c.args.out.now (with_files g.C.Cabinet c.args.files.now beside)) (with_output g.O.Sink c.args.out.now (with_files g.C.Cabinet c.import_file.new.files beside)) refl refl refl is)

pub returns-in-Ok-put_totals-clause-runs : goal.returns-in-Ok-put_totals-clause-runs
returns-in-Ok-put_totals-clause-runs g c = λ beside.
    let is = c.in-Ok.ensures.imported in
    ran_on_both refl refl refl refl refl c.in-Ok-put_totals.ensures.rest_stays (record {
      inputs = is.0;
      input = [];
      output = made_output is.0;
      accepted = accepted c.args.ciff.now c.args.rule c.args.bits (g.C.Cabinet.told c.args.files.now) is.0 is.1 is.3;
      had = λ feeds. cc;
      exact = refl;
      left = record {
        content = is.2;
        text = subst (λ (t : Totals). Appends (g.O.Sink.written c.args.out.now) (g.O.Sink.written c.put_totals.new.out) (totals_line t)) is.4 c.in-Ok-put_totals.ensures.bytes;
        steps = omega arith;
      };
    })

pub returns-in-Err-clause-runs : goal.returns-in-Err-clause-runs
returns-in-Err-clause-runs g c = λ beside.
    let is = c.in-Ok.ensures.imported in
    ran_on_both refl refl refl refl refl c.in-Err.ensures.rest_stays (
      inl (refl, refl, c.in-Err.ensures.cause.failed),
      record {
        inputs = is.0;
        accepted = accepted c.args.ciff.now c.args.rule c.args.bits (g.C.Cabinet.told c.args.files.now) is.0 is.1 is.3;
        stands = inr (record {
          content = is.2;
          text = subst (λ (t : Totals). AppendsPrefix (g.O.Sink.written c.args.out.now) (g.O.Sink.written c.put_totals.new.out) (totals_line t)) is.4 c.in-Err.ensures.bytes;
          steps = uncounted _ _ 0 refl;
        });
      },
    )
