use Rattle.std.proofs.Common.{arith}
use Rattle.whole_files.proofs.Windows.{later_from}
use Rattle.whole_files.proofs.window.Window.begin_at.Goals as goal

pub returns-clause-shown : goal.returns-clause-shown
returns-clause-shown c =
    λ content shows.
    later_from _ _ _ _ _ shows c.if-at-self.false
    (omega (arith, c.if-at-self.false, c.if-at-self-2.false, c.len.ensures, c.args.self.now.bytes.ok.0)) c.drop_front.ensures.bytes
