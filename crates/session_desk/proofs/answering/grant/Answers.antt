-- What is told of the session of the name.
use Rattle.std.proofs.Common.{ℕ, List, refl, subst}
use Rattle.session_desk.proofs.Below.{WriteFault, Gathers}
use Rattle.session_desk.specs.State.{granted_more}
use Rattle.session_desk.specs.Standing.{state_of}
use Rattle.session_desk.proofs.Replying.{reply_told}
use Rattle.session_desk.proofs.answering.grant.Goals as goal

pub returns-in-Some-clause-reply : goal.returns-in-Some-clause-reply
returns-in-Some-clause-reply g c =
    subst (λ (text : List ℕ). Gathers {T = Unit {0}} {E = WriteFault} g.O.Sink.written g.O.Sink.faults g.O.Sink.rest c.args.out.now c.gather_report.new.out c.args.buffer.now c.gather_report.new.buffer text c.gather_report.result)
    (reply_told (g.S.Source.index c.args.source.now) c.args.name.now (state_of c.args.table.now) (granted_more c.args.budget) (λ session. refl) c.in-Some.told c.in-Some.ensures.told) c.gather_report.ensures
