use Rattle.std.proofs.Common.{ap, refl, ◌∙◌}
use Rattle.jass_top.proofs.Serving.{answers_as, answers_none, answers_then}
use Rattle.jass_top.proofs.serve_lines.answer_waiting.Goals as goal

pub lines-init : goal.lines-init
lines-init g c = record { source = refl; answers = answers_none c.args.out.now c.args.buffer.now c.args.steps.now (g.S.Source.index c.args.desk.now.source) c.args.lines.now c.args.desk.now.state }

pub lines-preserved : goal.lines-preserved
lines-preserved g c = record {
  source = c.in-Ok-On.ensures.source ∙ c.lines.invariant.source;
  answers = answers_as c.in-Ok-On.field-0-is (answers_then (ap g.S.Source.index c.lines.invariant.source) c.lines.invariant.answers c.in-Ok-On.ensures.answers);
}

pub returns-in-Ok-End-clause-answers : goal.returns-in-Ok-End-clause-answers
returns-in-Ok-End-clause-answers g c = answers_as c.in-Ok-End.field-0-is (answers_then (ap g.S.Source.index c.lines.invariant.source) c.lines.invariant.answers c.in-Ok-End.ensures.answers)

pub returns-in-Ok-NoMemory-clause-answers : goal.returns-in-Ok-NoMemory-clause-answers
returns-in-Ok-NoMemory-clause-answers g c =
    answers_as c.in-Ok-NoMemory.field-0-is (answers_then (ap g.S.Source.index c.lines.invariant.source) c.lines.invariant.answers c.in-Ok-NoMemory.ensures.answers)

pub returns-in-Err-clause-answers : goal.returns-in-Err-clause-answers
returns-in-Err-clause-answers g c = answers_then (ap g.S.Source.index c.lines.invariant.source) c.lines.invariant.answers c.in-Err.ensures.answers
