use Rattle.std.proofs.Common.{◌≡◌, Err, refl, ap, sym, subst, ◌∙◌, inl}
use Rattle.jass_top.proofs.Below.{CollectionData, CiffFault, read_ciff}
use Rattle.ciff_read.specs.Refusals.{Fails}
use Rattle.jass_top.specs.declared.stop.Place.TheVariants.{Byte}
use Rattle.jass_top.specs.Judging.{Refuses, Shows, judge_ciff}
use Rattle.jass_top.proofs.Judged.{shown, unread_file}
use Rattle.jass_top.proofs.input.read_file.Goals as goal

pub returns-in-Err-ReadFault-clause-unread : goal.returns-in-Err-ReadFault-clause-unread
returns-in-Err-ReadFault-clause-unread g c =
    (inl refl, unread_file (g.C.Cabinet.told c.args.files.now) c.args.name.now (g.C.Cabinet.read_faults c.args.files.now) (g.C.Cabinet.read_faults c.read_front.new.files) (c.in-Err-ReadFault.ensures.fault (ap Err c.in-Err-ReadFault.field-0-is)))

pub returns-in-Ok-read_collection-clause-accepted : goal.returns-in-Ok-read_collection-clause-accepted
returns-in-Ok-read_collection-clause-accepted g c =
    shown (g.C.Cabinet.told c.args.files.now) c.args.name.now c.in-Ok.bytes _ c.the_front_is_enough.ensures c.in-Ok.ensures.content (ap read_ciff (sym c.as_slice.ensures) ∙ c.in-Ok-read_collection.ensures.exact)

pub returns-in-Err-Refused-clause-unread : goal.returns-in-Err-Refused-clause-unread
returns-in-Err-Refused-clause-unread g c =
    let read : read_ciff c.as_slice.result.now ≡ Err c.in-Err-Refused.refusal
    = subst (λ (f : CiffFault). Fails {Y = CollectionData} f (read_ciff c.as_slice.result.now)) c.in-Err-Refused.field-0-is c.in-Err-Refused.ensures.exact in (
      inl refl,
      subst (λ n. Shows (judge_ciff c.args.name.now (g.C.Cabinet.told c.args.files.now)) (Refuses c.args.name.now n (Byte c.in-Err-Refused.refusal.at))) (sym c.number.ensures)
          (shown (g.C.Cabinet.told c.args.files.now) c.args.name.now c.in-Ok.bytes (Err c.in-Err-Refused.refusal) c.the_front_is_enough.ensures c.in-Ok.ensures.content (ap read_ciff (sym c.as_slice.ensures) ∙ read)),
    )
