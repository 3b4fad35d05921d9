use Rattle.std.proofs.Common.{Err, refl, ap, inl, take, ◌≡◌}
use Rattle.jass_top.proofs.Judged.{content_such, unread_content}
use Rattle.jass_top.proofs.content_input.file_front.Goals as goal

pub returns-in-Ok-clause-accepted : goal.returns-in-Ok-clause-accepted
returns-in-Ok-clause-accepted g c = content_such (g.C.Cabinet.told c.args.files.now) c.args.name.now (λ content. c.in-Ok.bytes ≡ take c.args.most content) c.in-Ok.ensures.content

pub returns-in-Err-ReadFault-clause-unread : goal.returns-in-Err-ReadFault-clause-unread
returns-in-Err-ReadFault-clause-unread g c = (
  inl refl,
  unread_content (g.C.Cabinet.told c.args.files.now) c.args.name.now (g.C.Cabinet.read_faults c.args.files.now) (g.C.Cabinet.read_faults c.read_front.new.files) (c.in-Err-ReadFault.ensures.fault (ap Err c.in-Err-ReadFault.field-0-is)),
)
