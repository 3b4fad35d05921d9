use Rattle.std.proofs.Common.{◌≡◌, Err, rules}
use Rattle.jass_top.proofs.Serving.{answers_failed, answers_flushed, answers_unflushed}
use Rattle.jass_top.proofs.serve_lines.serve_waiting.Goals as goal

pub returns-in_err-went-clause-answers : goal.returns-in_err-went-clause-answers
returns-in_err-went-clause-answers g c =
    let out : c.from_residual.result ≡ Err c.in_err-went.field-0.0 = search rules in
    rw out (answers_failed c.args.out.now c.answer_waiting.new.out c.args.buffer.now c.answer_waiting.new.buffer c.args.steps.now c.answer_waiting.new.steps (g.S.Source.index c.args.desk.now.source) c.args.lines.now c.answer_waiting.new.lines
    c.args.desk.now.state c.answer_waiting.new.desk.state c.in_err-went.field-0.0 c.in_err-went.ensures.answers)

pub returns-in-Ok-clause-answers : goal.returns-in-Ok-clause-answers
returns-in-Ok-clause-answers g c =
    answers_flushed c.args.out.now c.answer_waiting.new.out c.flush.new.out c.args.buffer.now c.answer_waiting.new.buffer c.args.steps.now c.answer_waiting.new.steps (g.S.Source.index c.args.desk.now.source) c.args.lines.now c.answer_waiting.new.lines
    c.args.desk.now.state c.answer_waiting.new.desk.state c.in_ok-went.went c.in_ok-went.ensures.answers c.in-Ok.ensures.text

pub returns-in-Err-clause-answers : goal.returns-in-Err-clause-answers
returns-in-Err-clause-answers g c =
    answers_unflushed c.args.out.now c.answer_waiting.new.out c.flush.new.out c.args.buffer.now c.answer_waiting.new.buffer c.args.steps.now c.answer_waiting.new.steps (g.S.Source.index c.args.desk.now.source) c.args.lines.now c.answer_waiting.new.lines
    c.args.desk.now.state c.answer_waiting.new.desk.state c.in_ok-went.went c.in-Err.fault c.in_ok-went.ensures.answers c.in-Err.ensures.text
