use Rattle.std.proofs.Common.{◌≡◌, Ok, length}
use Rattle.session_desk.specs.declared.went.Went.TheVariants as wents
use Rattle.jass_top.specs.Private.Serving.{AnswersLines}
use Rattle.jass_top.proofs.serve_lines.answer_waiting.Given as goal

abbrev pub invariant-lines : goal.invariant-lines
invariant-lines g l = record {
  source : l.desk.source ≡ l.fn.desk.source;
  answers : AnswersLines g.O.Sink.written g.O.Sink.faults g.O.Sink.rest l.fn.out l.out l.fn.buffer l.buffer l.fn.steps l.steps (g.S.Source.index l.fn.desk.source) l.fn.lines l.lines l.fn.desk.state l.desk.state (Ok wents.On);
}

abbrev pub decreases-lines : goal.decreases-lines
decreases-lines g l = length l.lines.bytes
