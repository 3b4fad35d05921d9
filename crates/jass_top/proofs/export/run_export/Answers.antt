use Rattle.std.proofs.Common.{[], Some, refl, subst, inr}
use Rattle.jass_top.proofs.Below.{CollectionData, canonical_ciff, collection_data, Appends-none, Rose-earlier, index_postings}
use Rattle.jass_top.specs.ExportMeaning.{export_meaning, exported}
use Rattle.jass_top.specs.Standing.{LeavesFile, LeavesFront}
use Rattle.jass_top.specs.Private.Worlds.{with_files, with_steps}
use Rattle.jass_top.proofs.Stopping.{counted, ran_on_files, stopped_unread}
use Rattle.jass_top.proofs.export.run_export.Goals as goal

pub returns-in-Err-clause-runs : goal.returns-in-Err-clause-runs
returns-in-Err-clause-runs g c = λ beside.
    ran_on_files refl refl refl refl refl refl refl
    (stopped_unread (export_meaning c.args.index.now c.args.ciff.now) (with_files g.C.Cabinet c.args.files.now (with_steps c.args.steps.now beside))
    (with_files g.C.Cabinet c.open_index.new.files (with_steps c.args.steps.now beside)) c.in-Err.stop refl
    (record { told = c.in-Err.ensures.stays; written = refl; left = refl; steps = refl }) c.in-Err.ensures.unread)

pub returns-in-Err-made-clause-runs : goal.returns-in-Err-made-clause-runs
returns-in-Err-made-clause-runs g c = λ beside.
    ran_on_files refl refl refl refl refl refl refl (inr (record {
      inputs = c.in-Ok.file;
      accepted = c.in-Ok.ensures.accepted;
      stands = record {
        told = c.in-Ok.ensures.stays;
        written = refl;
        steps = record { never_less = c.in-Err-made.ensures.later; at_most = c.in-Err-made.ensures.counted };
      };
    }))

pub returns-in-Ok-written-clause-runs : goal.returns-in-Ok-written-clause-runs
returns-in-Ok-written-clause-runs g c = λ beside.
    let told = g.C.Cabinet.told c.args.files.now in
    let after = g.C.Cabinet.told c.write_file-written.new.files in
    ran_on_files refl refl refl refl refl refl refl (record {
      inputs = c.in-Ok.file;
      input = [];
      output = exported c.in-Ok.file;
      accepted = c.in-Ok.ensures.accepted;
      had = λ feeds. cc;
      exact = refl;
      left = record {
        content = subst (λ (d : CollectionData). LeavesFile (Some c.args.ciff.now) told after (canonical_ciff d)) c.in-Ok-made.ensures.collection
            (subst (λ old. LeavesFile (Some c.args.ciff.now) old after (canonical_ciff (collection_data c.in-Ok-made.collection))) c.in-Ok.ensures.stays c.in-Ok-written.ensures.ok);
        text = Appends-none beside.written;
        steps = c.in-Ok-made.ensures.steps;
      };
    })

pub returns-in-Err-written-clause-runs : goal.returns-in-Err-written-clause-runs
returns-in-Err-written-clause-runs g c = λ beside.
    let told = g.C.Cabinet.told c.args.files.now in
    let after = g.C.Cabinet.told c.write_file-written.new.files in
    ran_on_files refl refl refl refl refl refl refl (
      inr (refl, Rose-earlier (g.C.Cabinet.write_faults c.args.files.now) (g.C.Cabinet.write_faults c.open_index.new.files) (g.C.Cabinet.write_faults c.write_file-written.new.files) c.in-Ok.ensures.others c.in-Err-written.ensures.cause.failed),
      record {
        inputs = c.in-Ok.file;
        accepted = c.in-Ok.ensures.accepted;
        stands = record {
          content = subst (λ (d : CollectionData). LeavesFront (Some c.args.ciff.now) told after (canonical_ciff d)) c.in-Ok-made.ensures.collection
              (subst (λ old. LeavesFront (Some c.args.ciff.now) old after (canonical_ciff (collection_data c.in-Ok-made.collection))) c.in-Ok.ensures.stays c.in-Err-written.ensures.err);
          written = refl;
          steps = counted _ _ (index_postings c.in-Ok.file.index) c.in-Ok-made.ensures.steps;
        };
      },
    )
