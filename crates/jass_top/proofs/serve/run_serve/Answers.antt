use Rattle.std.proofs.Common.{◌≡◌, Err, rules, refl, ap, ◌∙◌, inl, inr}
use Rattle.jass_top.proofs.Below.{DeskState, FileView}
use Rattle.jass_top.specs.declared.serve_stop.ServeStop.TheVariants as stops
use Rattle.jass_top.specs.declared.stop.Stop.TheVariants as why
use Rattle.jass_top.specs.Worlds.{outer}
use Rattle.jass_top.proofs.Unserved.{did_all, did_first, did_front, did_part, did_taken, held_shown, opened, ran, runs_unserved, served_as, stopped_as}
use Rattle.jass_top.proofs.serve.run_serve.Goals as goal

pub returns-in-Err-new-2-clause-runs : goal.returns-in-Err-new-2-clause-runs
returns-in-Err-new-2-clause-runs g c =
    let before = outer g.C.Cabinet g.I.Feed g.O.Sink c.args.files.now c.args.input.now c.args.out.now c.args.steps.now in
    let after = outer g.C.Cabinet g.I.Feed g.O.Sink c.open_index.new.files c.args.input.now c.args.out.now c.args.steps.now in
    runs_unserved c.args.index.now c.args.frames before after why.NoMemory tt (record { told = c.in-Ok.ensures.stays; written = refl; left = refl; steps = refl }) refl

pub returns-in-Err-clause-runs : goal.returns-in-Err-clause-runs
returns-in-Err-clause-runs g c =
    let before = outer g.C.Cabinet g.I.Feed g.O.Sink c.args.files.now c.args.input.now c.args.out.now c.args.steps.now in
    let after = outer g.C.Cabinet g.I.Feed g.O.Sink c.open_index.new.files c.args.input.now c.args.out.now c.args.steps.now in
    runs_unserved c.args.index.now c.args.frames before after c.in-Err.stop c.in-Err.ensures.unread (record { told = c.in-Err.ensures.stays; written = refl; left = refl; steps = refl }) refl

pub returns-in-Err-new-clause-runs : goal.returns-in-Err-new-clause-runs
returns-in-Err-new-clause-runs g c =
    let before = outer g.C.Cabinet g.I.Feed g.O.Sink c.args.files.now c.args.input.now c.args.out.now c.args.steps.now in
    let after = outer g.C.Cabinet g.I.Feed g.O.Sink c.open_index.new.files c.args.input.now c.args.out.now c.args.steps.now in
    runs_unserved c.args.index.now c.args.frames before after why.NoMemory tt (record { told = c.in-Ok.ensures.stays; written = refl; left = refl; steps = refl }) refl

pub returns-in-Ok-served-clause-runs : goal.returns-in-Ok-served-clause-runs
returns-in-Ok-served-clause-runs g c =
    let before = outer g.C.Cabinet g.I.Feed g.O.Sink c.args.files.now c.args.input.now c.args.out.now c.args.steps.now in
    let after = outer g.C.Cabinet g.I.Feed g.O.Sink c.open_index.new.files c.serve_lines-served.new.input c.serve_lines-served.new.out c.serve_lines-served.new.steps in
    let told = g.C.Cabinet.told c.open_index.new.files in let reads = g.C.Cabinet.read_faults c.open_index.new.files in let writes = g.C.Cabinet.write_faults c.open_index.new.files in
    let shown = held_shown c.args.index.now (g.C.Cabinet.told c.args.files.now) c.in-Ok.file c.in-Ok.ensures.accepted in
    let mid = opened c.args.index.now c.args.frames before after told reads writes c.in-Ok.ensures.stays c.in-Ok.file.index shown in
    let served = served_as (ap (λ (v : FileView). v.index) c.in-Ok-new-2.ensures.source) (ap (λ (s : DeskState). s.frames) c.in-Ok-new-2.ensures.state) (c.in-Ok-served.ensures.served mid) in
    ran c.args.index.now c.args.frames before after _ served.rest_stays served.taken (did_all c.args.index.now c.args.frames before after told reads writes c.in-Ok.ensures.stays c.in-Ok.file.index shown served)

pub returns-in-Err-NoMemory-clause-runs : goal.returns-in-Err-NoMemory-clause-runs
returns-in-Err-NoMemory-clause-runs g c =
    let before = outer g.C.Cabinet g.I.Feed g.O.Sink c.args.files.now c.args.input.now c.args.out.now c.args.steps.now in
    let after = outer g.C.Cabinet g.I.Feed g.O.Sink c.open_index.new.files c.serve_lines-served.new.input c.serve_lines-served.new.out c.serve_lines-served.new.steps in
    let told = g.C.Cabinet.told c.open_index.new.files in let reads = g.C.Cabinet.read_faults c.open_index.new.files in let writes = g.C.Cabinet.write_faults c.open_index.new.files in
    let shown = held_shown c.args.index.now (g.C.Cabinet.told c.args.files.now) c.in-Ok.file c.in-Ok.ensures.accepted in
    let mid = opened c.args.index.now c.args.frames before after told reads writes c.in-Ok.ensures.stays c.in-Ok.file.index shown in
    let same : c.in-Err-NoMemory.field-0 ≡ stops.NoMemory = search rules in
    let served = stopped_as c.in-Err-NoMemory.is same (served_as (ap (λ (v : FileView). v.index) c.in-Ok-new-2.ensures.source) (ap (λ (s : DeskState). s.frames) c.in-Ok-new-2.ensures.state) (c.serve_lines-served.ensures.served mid)) in
    ran c.args.index.now c.args.frames before after _ served.rest_stays served.taken (inr (did_first c.args.index.now c.args.frames before after told reads writes c.in-Ok.ensures.stays c.in-Ok.file.index shown served))

pub returns-in-Err-ReadFault-clause-runs : goal.returns-in-Err-ReadFault-clause-runs
returns-in-Err-ReadFault-clause-runs g c =
    let before = outer g.C.Cabinet g.I.Feed g.O.Sink c.args.files.now c.args.input.now c.args.out.now c.args.steps.now in
    let after = outer g.C.Cabinet g.I.Feed g.O.Sink c.open_index.new.files c.serve_lines-served.new.input c.serve_lines-served.new.out c.serve_lines-served.new.steps in
    let told = g.C.Cabinet.told c.open_index.new.files in let reads = g.C.Cabinet.read_faults c.open_index.new.files in let writes = g.C.Cabinet.write_faults c.open_index.new.files in
    let shown = held_shown c.args.index.now (g.C.Cabinet.told c.args.files.now) c.in-Ok.file c.in-Ok.ensures.accepted in
    let mid = opened c.args.index.now c.args.frames before after told reads writes c.in-Ok.ensures.stays c.in-Ok.file.index shown in
    let same : c.in-Err-ReadFault.field-0 ≡ stops.ReadFault = search rules in
    let served = stopped_as c.in-Err-ReadFault.is same (served_as (ap (λ (v : FileView). v.index) c.in-Ok-new-2.ensures.source) (ap (λ (s : DeskState). s.frames) c.in-Ok-new-2.ensures.state) (c.serve_lines-served.ensures.served mid)) in
    ran c.args.index.now c.args.frames before after _ served.rest_stays served.taken (inr (record { feeds = refl; named = refl; cause = c.serve_lines-served.ensures.failed (c.in-Err-ReadFault.is ∙ ap Err same); stands = did_taken c.args.index.now c.args.frames before after told reads writes c.in-Ok.ensures.stays c.in-Ok.file.index shown served }))

pub returns-in-Err-WriteFault-clause-runs : goal.returns-in-Err-WriteFault-clause-runs
returns-in-Err-WriteFault-clause-runs g c =
    let before = outer g.C.Cabinet g.I.Feed g.O.Sink c.args.files.now c.args.input.now c.args.out.now c.args.steps.now in
    let after = outer g.C.Cabinet g.I.Feed g.O.Sink c.open_index.new.files c.serve_lines-served.new.input c.serve_lines-served.new.out c.serve_lines-served.new.steps in
    let told = g.C.Cabinet.told c.open_index.new.files in let reads = g.C.Cabinet.read_faults c.open_index.new.files in let writes = g.C.Cabinet.write_faults c.open_index.new.files in
    let shown = held_shown c.args.index.now (g.C.Cabinet.told c.args.files.now) c.in-Ok.file c.in-Ok.ensures.accepted in
    let mid = opened c.args.index.now c.args.frames before after told reads writes c.in-Ok.ensures.stays c.in-Ok.file.index shown in
    let same : c.in-Err-WriteFault.field-0 ≡ stops.WriteFault = search rules in
    let served = stopped_as c.in-Err-WriteFault.is same (served_as (ap (λ (v : FileView). v.index) c.in-Ok-new-2.ensures.source) (ap (λ (s : DeskState). s.frames) c.in-Ok-new-2.ensures.state) (c.serve_lines-served.ensures.served mid)) in
    ran c.args.index.now c.args.frames before after _ served.rest_stays served.taken ((inl (refl, refl, served.failed refl), did_part c.args.index.now c.args.frames before after told reads writes c.in-Ok.ensures.stays c.in-Ok.file.index shown served))

pub returns-in-Err-Limit-clause-runs : goal.returns-in-Err-Limit-clause-runs
returns-in-Err-Limit-clause-runs g c =
    let before = outer g.C.Cabinet g.I.Feed g.O.Sink c.args.files.now c.args.input.now c.args.out.now c.args.steps.now in
    let after = outer g.C.Cabinet g.I.Feed g.O.Sink c.open_index.new.files c.serve_lines-served.new.input c.serve_lines-served.new.out c.serve_lines-served.new.steps in
    let told = g.C.Cabinet.told c.open_index.new.files in let reads = g.C.Cabinet.read_faults c.open_index.new.files in let writes = g.C.Cabinet.write_faults c.open_index.new.files in
    let shown = held_shown c.args.index.now (g.C.Cabinet.told c.args.files.now) c.in-Ok.file c.in-Ok.ensures.accepted in
    let mid = opened c.args.index.now c.args.frames before after told reads writes c.in-Ok.ensures.stays c.in-Ok.file.index shown in
    let same : c.in-Err-Limit.field-0 ≡ stops.Limit = search rules in
    let served = stopped_as c.in-Err-Limit.is same (served_as (ap (λ (v : FileView). v.index) c.in-Ok-new-2.ensures.source) (ap (λ (s : DeskState). s.frames) c.in-Ok-new-2.ensures.state) (c.serve_lines-served.ensures.served mid)) in
    ran c.args.index.now c.args.frames before after _ served.rest_stays served.taken (did_front c.args.index.now c.args.frames before after told reads writes c.in-Ok.ensures.stays c.in-Ok.file.index shown served)
