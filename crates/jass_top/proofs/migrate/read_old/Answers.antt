use Rattle.std.proofs.Common.{◌≡◌, Ok, Err, refl, ap, sym, subst, ◌∙◌, inl}
use Rattle.jass_top.proofs.Below.{IndexData, index_data, OpenFault, Fails, read_index1}
use Rattle.jass_top.specs.IndexJudging.{judge_old}
use Rattle.jass_top.specs.declared.stop.Place.TheVariants.{Byte}
use Rattle.jass_top.specs.Judging.{Refuses, Shows}
use Rattle.jass_top.proofs.JudgedFiles.{shown_old, unread_old}
use Rattle.jass_top.proofs.migrate.read_old.Goals as goal

pub returns-in-Err-ReadFault-clause-unread : goal.returns-in-Err-ReadFault-clause-unread
returns-in-Err-ReadFault-clause-unread g c =
    (inl refl, unread_old (g.C.Cabinet.told c.args.files.now) c.args.name.now (g.C.Cabinet.read_faults c.args.files.now) (g.C.Cabinet.read_faults c.read_front.new.files) (c.in-Err-ReadFault.ensures.fault (ap Err c.in-Err-ReadFault.field-0-is)))

pub returns-in-Ok-read_version1-clause-accepted : goal.returns-in-Ok-read_version1-clause-accepted
returns-in-Ok-read_version1-clause-accepted g c =
    shown_old (g.C.Cabinet.told c.args.files.now) c.args.name.now c.in-Ok.bytes (Ok (index_data c.in-Ok-read_version1.index)) c.the_front_is_enough.ensures c.in-Ok.ensures.content (ap read_index1 (sym c.as_slice.ensures) ∙ c.in-Ok-read_version1.ensures.exact)

pub returns-in-Err-Refused-clause-unread : goal.returns-in-Err-Refused-clause-unread
returns-in-Err-Refused-clause-unread g c =
    let read : read_index1 c.as_slice.result.now ≡ Err c.in-Err-Refused.refusal
    = subst (λ (f : OpenFault). Fails {Y = IndexData} f (read_index1 c.as_slice.result.now)) c.in-Err-Refused.field-0-is c.in-Err-Refused.ensures.exact in (
      inl refl,
      subst (λ n. Shows (judge_old c.args.name.now (g.C.Cabinet.told c.args.files.now)) (Refuses c.args.name.now n (Byte c.in-Err-Refused.refusal.at))) (sym c.number.ensures)
          (shown_old (g.C.Cabinet.told c.args.files.now) c.args.name.now c.in-Ok.bytes (Err c.in-Err-Refused.refusal) c.the_front_is_enough.ensures c.in-Ok.ensures.content (ap read_index1 (sym c.as_slice.ensures) ∙ read)),
    )
