use Rattle.std.proofs.Common.{[], Some, refl, subst, inr, arith}
use Rattle.jass_top.proofs.Below.{canonical_ciff, collection_data, Appends-none, Rose-earlier}
use Rattle.jass_top.specs.RewriteMeaning.{rewrite_meaning, rewritten}
use Rattle.jass_top.specs.Standing.{LeavesFile, LeavesFront}
use Rattle.jass_top.specs.Private.Worlds.{with_files}
use Rattle.jass_top.proofs.Stopping.{ran_on_files, stopped_unread, uncounted}
use Rattle.jass_top.proofs.rewrite.run_rewrite.Goals as goal

pub returns-in-Err-clause-runs : goal.returns-in-Err-clause-runs
returns-in-Err-clause-runs g c = λ beside.
    ran_on_files refl refl refl refl refl refl refl
    (stopped_unread (rewrite_meaning c.args.from.now c.args.to.now) (with_files g.C.Cabinet c.args.files.now beside)
    (with_files g.C.Cabinet c.read_file.new.files beside) c.in-Err.stop refl
    (record { told = c.in-Err.ensures.stays; written = refl; left = refl; steps = refl }) c.in-Err.ensures.unread)

pub returns-in-Ok-written-clause-runs : goal.returns-in-Ok-written-clause-runs
returns-in-Ok-written-clause-runs g c = λ beside.
    let collection = collection_data c.in-Ok.collection in
    ran_on_files refl refl refl refl refl refl refl (record {
      inputs = collection;
      input = [];
      output = rewritten collection;
      accepted = c.in-Ok.ensures.accepted;
      had = λ feeds. cc;
      exact = refl;
      left = record {
        content = subst (λ told. LeavesFile (Some c.args.to.now) told (g.C.Cabinet.told c.write_file-written.new.files) (canonical_ciff collection)) c.in-Ok.ensures.stays c.in-Ok-written.ensures.ok;
        text = Appends-none beside.written;
        steps = omega arith;
      };
    })

pub returns-in-Err-written-clause-runs : goal.returns-in-Err-written-clause-runs
returns-in-Err-written-clause-runs g c = λ beside.
    let collection = collection_data c.in-Ok.collection in
    ran_on_files refl refl refl refl refl refl refl (
      inr (refl, Rose-earlier (g.C.Cabinet.write_faults c.args.files.now) (g.C.Cabinet.write_faults c.read_file.new.files) (g.C.Cabinet.write_faults c.write_file-written.new.files) c.in-Ok.ensures.others c.in-Err-written.ensures.cause.failed),
      record {
        inputs = collection;
        accepted = c.in-Ok.ensures.accepted;
        stands = record {
          content = subst (λ told. LeavesFront (Some c.args.to.now) told (g.C.Cabinet.told c.write_file-written.new.files) (canonical_ciff collection)) c.in-Ok.ensures.stays c.in-Err-written.ensures.err;
          written = refl;
          steps = uncounted _ _ 0 refl;
        };
      },
    )
