-- The line is read, and its command answered.
use Rattle.std.proofs.Common.{◌≡◌, ◌+◌, ◌↔◌, IfOk, IsTrue, Option, subst}
use Rattle.session_desk.proofs.Below.{WriteFault, Gathers}
use Rattle.session_desk.specs.declared.went.Went.{Went}
use Rattle.session_desk.specs.declared.went.Went.TheVariants.{End, NoMemory}
use Rattle.session_desk.specs.Endings.{left_where, may_take_memory, may_want_memory, text_where}
use Rattle.session_desk.specs.Lines.{DeskCommand, is_end, is_end_command}
use Rattle.session_desk.specs.Replies.{after_of, desk_after, desk_reply, desk_steps, reply_to, steps_of}
use Rattle.session_desk.specs.State.{DeskView}
use Rattle.session_desk.specs.Standing.{state_of}
use Rattle.session_desk.proofs.desk.Desk.answer_line.Goals as goal

pub returns-clause-reply : goal.returns-clause-reply
unfolding desk_reply
returns-clause-reply g c =
    subst (λ (v : DeskView g.row.S.Denot). Gathers {T = Went} {E = WriteFault} g.O.Sink.written g.O.Sink.faults g.O.Sink.rest c.args.out.now c.answer.new.out c.args.buffer.now c.answer.new.buffer (text_where c.answer.result (desk_reply (g.S.Source.index v.source) v.state c.args.line.now)) c.answer.result) c.self.view_is
    (subst (λ (o : Option DeskCommand). Gathers {T = Went} {E = WriteFault} g.O.Sink.written g.O.Sink.faults g.O.Sink.rest c.args.out.now c.answer.new.out
    c.args.buffer.now c.answer.new.buffer (text_where c.answer.result (reply_to (g.S.Source.index c.self.inside.source) (state_of c.self.inside.table) o)) c.answer.result)
    c.read_command-command.ensures.command c.answer.ensures.reply)

pub returns-clause-after : goal.returns-clause-after
unfolding desk_after
returns-clause-after g c =
    subst (λ (v : DeskView g.row.S.Denot). state_of c.answer.new.table ≡ left_where c.answer.result v.state (desk_after (g.S.Source.index v.source) v.state c.args.line.now)) c.self.view_is
    (subst (λ (o : Option DeskCommand). state_of c.answer.new.table ≡ left_where c.answer.result (state_of c.self.inside.table) (after_of (g.S.Source.index c.self.inside.source) (state_of c.self.inside.table) o))
    c.read_command-command.ensures.command c.answer.ensures.after)

pub returns-clause-steps : goal.returns-clause-steps
unfolding desk_steps
returns-clause-steps g c = subst (λ (v : DeskView g.row.S.Denot). c.answer.new.steps ≡ c.args.steps.now + desk_steps (g.S.Source.index v.source) v.state c.args.line.now) c.self.view_is
    (subst (λ (o : Option DeskCommand). c.answer.new.steps ≡ c.args.steps.now + steps_of (g.S.Source.index c.self.inside.source) (state_of c.self.inside.table) o) c.read_command-command.ensures.command c.answer.ensures.steps)

pub returns-clause-end : goal.returns-clause-end
unfolding is_end
returns-clause-end g c =
    subst (λ (o : Option DeskCommand). IfOk c.answer.result (λ went. went ≡ End ↔ IsTrue (is_end_command o))) c.read_command-command.ensures.command c.answer.ensures.end

pub returns-clause-memory : goal.returns-clause-memory
unfolding may_want_memory
returns-clause-memory g c =
    subst (λ (v : DeskView g.row.S.Denot). IfOk c.answer.result (λ went. went ≡ NoMemory → IsTrue (may_want_memory v.state c.args.line.now))) c.self.view_is
    (subst (λ (o : Option DeskCommand). IfOk c.answer.result (λ went. went ≡ NoMemory → IsTrue (may_take_memory (state_of c.self.inside.table) o))) c.read_command-command.ensures.command c.answer.ensures.memory)
