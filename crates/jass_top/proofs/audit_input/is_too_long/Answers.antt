use Rattle.std.proofs.Common.{◌≡◌, ◌^◌, length, nat_lt, refl, inl, arith}
use Rattle.jass_base.specs.declared.faults.Failed.{Failed}
use Rattle.jass_top.proofs.Judged.{content_such, unread_content}
use Rattle.jass_top.proofs.JudgedAudit.{long_or_not}
use Rattle.jass_top.proofs.audit_input.is_too_long.Goals as goal

pub returns-in-Ok-clause-long : goal.returns-in-Ok-clause-long
returns-in-Ok-clause-long g c = content_such (g.C.Cabinet.told c.args.files.now) c.args.name.now (λ content. nat_lt 0 c.in-Ok.count ≡ nat_lt (2 ^ 32) (length content))
    (long_or_not Failed (g.C.Cabinet.told c.args.files.now) c.args.name.now c.in-Ok.count c.read_at.new.buf (omega (arith, c.read_at.auto.buf)) c.in-Ok.ensures.bytes)

pub returns-in-Err-clause-unread : goal.returns-in-Err-clause-unread
returns-in-Err-clause-unread g c = (
  inl refl,
  unread_content (g.C.Cabinet.told c.args.files.now) c.args.name.now (g.C.Cabinet.read_faults c.args.files.now) (g.C.Cabinet.read_faults c.read_at.new.self) c.in-Err.ensures.cause.failed,
)
