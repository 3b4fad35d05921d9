use Rattle.std.proofs.Common.{Err, refl, ap, sym, subst, inl}
use Rattle.jass_top.proofs.Below.{OpenFault}
use Rattle.index_check.specs.Checking.{Checks}
use Rattle.jass_top.specs.IndexJudging.{judge_index}
use Rattle.jass_top.specs.declared.stop.Place.TheVariants.{Byte}
use Rattle.jass_top.specs.Judging.{Refuses, Shows}
use Rattle.jass_top.proofs.JudgedFiles.{shown_file, unread_index}
use Rattle.jass_top.proofs.index_input.check_index.Goals as goal

pub returns-in-Ok-clause-accepted : goal.returns-in-Ok-clause-accepted
returns-in-Ok-clause-accepted g c =
    let exact = c.in-Ok.ensures.exact in
    (exact.0, exact.1, shown_file (g.C.Cabinet.told c.args.files.now) c.args.name.now _ exact.2)

pub returns-in-Err-ReadFault-clause-unread : goal.returns-in-Err-ReadFault-clause-unread
returns-in-Err-ReadFault-clause-unread g c =
    (inl refl, unread_index (g.C.Cabinet.told c.args.files.now) c.args.name.now (g.C.Cabinet.read_faults c.args.files.now) (g.C.Cabinet.read_faults c.check_file.new.files) (c.in-Err-ReadFault.ensures.fault (ap Err c.in-Err-ReadFault.field-0-is)))

pub returns-in-Err-Refused-clause-unread : goal.returns-in-Err-Refused-clause-unread
returns-in-Err-Refused-clause-unread g c = (
  inl refl,
  subst (λ n. Shows (judge_index c.args.name.now (g.C.Cabinet.told c.args.files.now)) (Refuses c.args.name.now n (Byte c.in-Err-Refused.refusal.at))) (sym c.number.ensures)
      (shown_file (g.C.Cabinet.told c.args.files.now) c.args.name.now (Err c.in-Err-Refused.refusal) (subst (λ (f : OpenFault). Checks (g.C.Cabinet.told c.args.files.now) c.args.name.now (Err f)) c.in-Err-Refused.field-0-is c.in-Err-Refused.ensures.exact)),
)
