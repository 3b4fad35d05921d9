use Rattle.std.proofs.Common.{List, ℕ, Some, Ok, Err, sym, subst, arith}
use Rattle.jass_top.proofs.Below.{canonical_ciff, collection_data, Sets, Rose-earlier, WriteFault}
use Rattle.jass_base.specs.Outside.{HasCause}
use Rattle.jass_top.specs.Standing.{LeavesFront}
use Rattle.jass_top.proofs.MadeFiles.{made, written, written_part}
use Rattle.jass_top.proofs.collection_file.write_file.Goals as goal

pub returns-in-Err-clause-err : goal.returns-in-Err-clause-err
returns-in-Err-clause-err g c =
    made (g.C.Cabinet.told c.args.files.now) (g.C.Cabinet.told c.create.new.self) c.args.name.now (canonical_ciff (collection_data c.args.collection.now)) c.in-Err.ensures.content

pub returns-in-Ok-written-clause-ok : goal.returns-in-Ok-written-clause-ok
returns-in-Ok-written-clause-ok g c =
    let text : List ℕ = canonical_ciff (collection_data c.args.collection.now) in
    subst (λ files. Sets (g.C.Cabinet.told c.args.files.now) (g.C.Cabinet.told files) c.args.name.now text) (sym (c.files-1.given.1 (sym c.write_behind-written.ensures.same_reference)))
    (written (g.C.Cabinet.told c.args.files.now) (g.C.Cabinet.told c.create.new.self) (g.C.Cabinet.told c.write_behind-written.new.sink.files.now) c.args.name.now text
    c.in-Ok.ensures.content c.in-Ok-written.ensures.put c.write_behind-written.ensures.others)

pub returns-in-Err-written-clause-err : goal.returns-in-Err-written-clause-err
returns-in-Err-written-clause-err g c =
    let text : List ℕ = canonical_ciff (collection_data c.args.collection.now) in
    subst (λ files. LeavesFront (Some c.args.name.now) (g.C.Cabinet.told c.args.files.now) (g.C.Cabinet.told files) text) (sym (c.files-1.given.1 (sym c.write_behind-written.ensures.same_reference)))
    (written_part (g.C.Cabinet.told c.args.files.now) (g.C.Cabinet.told c.create.new.self) (g.C.Cabinet.told c.write_behind-written.new.sink.files.now) c.args.name.now text
    c.in-Ok.ensures.content c.in-Err-written.ensures.put c.write_behind-written.ensures.others)

pub returns-in-Ok-written-clause-cause : goal.returns-in-Ok-written-clause-cause
returns-in-Ok-written-clause-cause g c =
    subst (λ files. HasCause {T = Unit {0}} {E = WriteFault} (g.C.Cabinet.write_faults c.args.files.now) (g.C.Cabinet.write_faults files) (Ok tt)) (sym (c.files-1.given.1 (sym c.write_behind-written.ensures.same_reference)))
    (record { later = omega (arith, c.in-Ok.ensures.cause.later, c.in-Ok-written.ensures.cause.later); failed = tt })

pub returns-in-Err-written-clause-cause : goal.returns-in-Err-written-clause-cause
returns-in-Err-written-clause-cause g c =
    subst (λ files. HasCause {T = Unit {0}} {E = WriteFault} (g.C.Cabinet.write_faults c.args.files.now) (g.C.Cabinet.write_faults files) (Err (record {}))) (sym (c.files-1.given.1 (sym c.write_behind-written.ensures.same_reference)))
    (record {
      later = omega (arith, c.in-Ok.ensures.cause.later, c.in-Err-written.ensures.cause.later);
      failed = Rose-earlier (g.C.Cabinet.write_faults c.args.files.now) (g.C.Cabinet.write_faults c.create.new.self) (g.C.Cabinet.write_faults c.write_behind-written.new.sink.files.now) c.in-Ok.ensures.cause.later c.in-Err-written.ensures.cause.failed;
    })
