use Rattle.std.proofs.Common.{◌≡◌, [], Some, refl}
use Rattle.jass_top.proofs.Below.{IndexData, index_data}
use Rattle.jass_top.specs.IndexJudging.{fitting, judge_old}
use Rattle.jass_top.specs.MakingMeaning.{SavesPart, made_output}
use Rattle.jass_top.specs.MigrateMeaning.{migrate_meaning}
use Rattle.jass_top.specs.Private.Worlds.{with_files, with_output}
use Rattle.jass_top.proofs.Behind.{unread_first}
use Rattle.jass_top.proofs.Making.{HasRead, carry_saved, made_runs}
use Rattle.jass_top.proofs.Stopping.{ran_on_both, stopped_unread}
use Rattle.jass_top.proofs.migrate.run_migrate.Goals as goal

pub returns-in-Err-clause-runs : goal.returns-in-Err-clause-runs
returns-in-Err-clause-runs g c = λ beside.
    let before = with_output g.O.Sink c.args.out.now (with_files g.C.Cabinet c.args.files.now beside) in
    let after = with_output g.O.Sink c.args.out.now (with_files g.C.Cabinet c.read_old.new.files beside) in
    ran_on_both refl refl refl refl refl refl
    (stopped_unread (migrate_meaning c.args.from.now c.args.to.now) before after c.in-Err.stop refl
    (record { told = c.in-Err.ensures.stays; written = refl; left = refl; steps = refl })
    (unread_first c.args.from.now [] (judge_old c.args.from.now before.told) (fitting c.args.from.now) before.read_faults after.read_faults c.in-Err.stop c.in-Err.ensures.unread))

pub returns-clause-runs : goal.returns-clause-runs
returns-clause-runs g c = λ beside.
    let index = index_data c.in-Ok.index in
    let before = with_output g.O.Sink c.args.out.now (with_files g.C.Cabinet c.args.files.now beside) in
    let mid = with_output g.O.Sink c.args.out.now (with_files g.C.Cabinet c.read_old.new.files beside) in
    let after = with_output g.O.Sink c.save_index-saved.new.out (with_files g.C.Cabinet c.save_index-saved.new.files beside) in
    let read : HasRead before mid
    = record { told = c.in-Ok.ensures.stays; written = refl; left = refl; steps = refl; out_faults = refl; feed_faults = refl; out_rest = refl; read_faults = c.in-Ok.ensures.later; write_faults = c.in-Ok.ensures.others } in
    made_runs c.args.from.now (Some c.args.to.now) (λ index output. output ≡ made_output index) (SavesPart c.args.to.now) (judge_old c.args.from.now) (λ (i : IndexData). i) index index refl before mid after read
    c.in-Ok.ensures.accepted (carry_saved before mid after read c.args.to.now) c.save_index-saved.result (c.save_index-saved.ensures.runs beside)
