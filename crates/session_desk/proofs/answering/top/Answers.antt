-- The answer of the session of the name.
use Rattle.std.proofs.Common.{◌∙◌, ℕ, List, subst}
use Rattle.session_desk.proofs.Below.{WriteFault, Gathers}
use Rattle.session_desk.specs.Standing.{session_data, state_of}
use Rattle.session_desk.proofs.Granting.{answer_shown}
use Rattle.session_desk.proofs.Replying.{reply_answered}
use Rattle.session_desk.proofs.answering.top.Goals as goal

pub returns-in-Some : goal.returns-in-Some
returns-in-Some g c =
    let index = (g.S.Source.index c.args.source.now) in let s = c.in-Some.session.now in let stands = c.in-Some.ensures.stands index c.requires.stands in
    let hits = c.answer.ensures index c.args.table.now.pool stands ∙ answer_shown s index c.args.table.now.pool stands in
    subst (λ (text : List ℕ). Gathers {T = Unit {0}} {E = WriteFault} g.O.Sink.written g.O.Sink.faults g.O.Sink.rest c.args.out.now c.gather_hits.new.out c.args.buffer.now c.gather_hits.new.buffer text c.gather_hits.result)
    (reply_answered index c.args.name.now (state_of c.args.table.now) (session_data s) c.answer.result.now c.in-Some.ensures.session hits) c.gather_hits.ensures
