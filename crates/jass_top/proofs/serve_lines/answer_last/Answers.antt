use Rattle.std.proofs.Common.{Result, Ok, sym, ap, subst, ◌∙◌, arith}
use Rattle.jass_top.proofs.Below.{WriteFault, Went, text_where, desk_reply, desk_steps, Gathers}
use Rattle.session_desk.specs.declared.went.Went.TheVariants as wents
use Rattle.jass_top.proofs.Serving.{opening_steps}
use Rattle.jass_top.proofs.ServedLast.{none_left, last_whole, last_none, last_sent, last_unsent, last_wanting, nothing_there, something_there}
use Rattle.jass_top.proofs.serve_lines.answer_last.Goals as goal

pub returns-then-nothing_waits : goal.returns-then-nothing_waits
returns-then-nothing_waits g c =
    let none = nothing_there c.args.lines.now.bytes c.args.lines.now.long (sym c.nothing_waits.ensures ∙ c.if-nothing_waits.true) in
    record {
      answers = last_none c.args.out.now c.args.steps.now (g.S.Source.index c.args.desk.now.source) c.args.lines.now c.args.desk.now.state _
          (none_left c.pending_bytes_wait.ensures.whole c.pending_bytes_wait.ensures.long c.lines_are_passed.ensures.all c.lines_end_by_line_feeds.ensures.none (g.S.Source.index c.args.desk.now.source) c.args.lines.now c.args.desk.now.state none.0 none.1);
    }

pub returns-in-Ok-On : goal.returns-in-Ok-On
returns-in-Ok-On g c =
    let index = g.S.Source.index c.args.desk.now.source in let state = c.args.desk.now.state in let line = c.last_line.result.now in
    record {
      answers = last_sent c.args.out.now c.answer_line.new.out c.send.new.out c.args.buffer.now c.answer_line.new.buffer (desk_reply index state line) c.args.steps.now c.answer_line.new.steps (desk_steps index state line) index c.args.lines.now state wents.On c.send.result
          c.requires.empty (subst (λ (went : Went). Gathers {E = WriteFault} g.O.Sink.written g.O.Sink.faults g.O.Sink.rest c.args.out.now c.answer_line.new.out
          c.args.buffer.now c.answer_line.new.buffer (text_where {E = WriteFault} (Ok went) (desk_reply index state line))
          (Ok went)) c.in-Ok-On.field-0-is c.in-Ok-On.ensures.reply) c.send.ensures.text c.send.ensures.stop c.answer_line.ensures.steps
          (last_whole c.pending_bytes_wait.ensures.whole c.pending_bytes_wait.ensures.long c.lines_are_passed.ensures.all c.a_line_loses_one_byte.ensures c.pending_bytes_wait.ensures.free c.lines_end_by_line_feeds.ensures.last
          index c.args.lines.now state line c.requires.free (something_there c.args.lines.now.bytes c.args.lines.now.long (sym c.nothing_waits.ensures ∙ c.if-nothing_waits.false)) c.last_line.ensures);
    }

pub returns-in-Ok-End : goal.returns-in-Ok-End
returns-in-Ok-End g c =
    let index = g.S.Source.index c.args.desk.now.source in let state = c.args.desk.now.state in let line = c.last_line.result.now in
    record {
      answers = last_sent c.args.out.now c.answer_line.new.out c.send-in-Ok-End.new.out c.args.buffer.now c.answer_line.new.buffer (desk_reply index state line) c.args.steps.now c.answer_line.new.steps (desk_steps index state line) index c.args.lines.now state wents.End c.send-in-Ok-End.result
          c.requires.empty (subst (λ (went : Went). Gathers {E = WriteFault} g.O.Sink.written g.O.Sink.faults g.O.Sink.rest c.args.out.now c.answer_line.new.out
          c.args.buffer.now c.answer_line.new.buffer (text_where {E = WriteFault} (Ok went) (desk_reply index state line))
          (Ok went)) c.in-Ok-End.field-0-is c.in-Ok-End.ensures.reply) c.send-in-Ok-End.ensures.text c.send-in-Ok-End.ensures.stop c.answer_line.ensures.steps
          (last_whole c.pending_bytes_wait.ensures.whole c.pending_bytes_wait.ensures.long c.lines_are_passed.ensures.all c.a_line_loses_one_byte.ensures c.pending_bytes_wait.ensures.free c.lines_end_by_line_feeds.ensures.last
          index c.args.lines.now state line c.requires.free (something_there c.args.lines.now.bytes c.args.lines.now.long (sym c.nothing_waits.ensures ∙ c.if-nothing_waits.false)) c.last_line.ensures);
    }

pub returns-in-Ok-NoMemory : goal.returns-in-Ok-NoMemory
returns-in-Ok-NoMemory g c =
    let none = opening_steps (g.S.Source.index c.args.desk.now.source) c.args.desk.now.state c.last_line.result.now (c.in-Ok-NoMemory.ensures.memory c.in-Ok-NoMemory.field-0-is) in
    record {
      answers = last_wanting c.args.out.now c.answer_line.new.out c.args.steps.now c.answer_line.new.steps (g.S.Source.index c.args.desk.now.source) c.args.lines.now c.args.desk.now.state
          (c.answer_line.ensures.untouched (c.in-Ok-NoMemory.is ∙ ap (λ (went : Went). (let r : Result Went WriteFault = Ok went in r)) c.in-Ok-NoMemory.field-0-is)).0 (omega (arith, c.answer_line.ensures.steps, none));
    }

pub returns-in-Err : goal.returns-in-Err
returns-in-Err g c =
    let index = g.S.Source.index c.args.desk.now.source in let state = c.args.desk.now.state in let line = c.last_line.result.now in
    record {
      answers = last_unsent c.args.out.now c.answer_line.new.out c.args.buffer.now c.answer_line.new.buffer (desk_reply index state line) c.args.steps.now c.answer_line.new.steps (desk_steps index state line) index c.args.lines.now state _
          c.requires.empty c.in-Err.ensures.reply c.answer_line.ensures.steps
          (last_whole c.pending_bytes_wait.ensures.whole c.pending_bytes_wait.ensures.long c.lines_are_passed.ensures.all c.a_line_loses_one_byte.ensures c.pending_bytes_wait.ensures.free c.lines_end_by_line_feeds.ensures.last
          index c.args.lines.now state line c.requires.free (something_there c.args.lines.now.bytes c.args.lines.now.long (sym c.nothing_waits.ensures ∙ c.if-nothing_waits.false)) c.last_line.ensures);
    }
