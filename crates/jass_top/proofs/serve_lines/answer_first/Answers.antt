use Rattle.std.proofs.Common.{Ok, [], sym, ap, subst, ◌∙◌, arith}
use Rattle.jass_top.proofs.Below.{Waiting, passed_to, DeskState, desk_after, desk_reply, desk_steps, WriteFault, Went, left_where, is_end}
use Rattle.jass_top.specs.Private.Serving.{Moves}
use Rattle.jass_top.proofs.Sides.{side_ok, side_err}
use Rattle.jass_top.proofs.Serving.{goes_last, goes_on, line_cuts, line_finishes, line_moves, opening_steps, stays, told_reply}
use Rattle.jass_top.proofs.serve_lines.answer_first.Goals as goal

pub returns-in-Ok-On-clause-answers : goal.returns-in-Ok-On-clause-answers
returns-in-Ok-On-clause-answers g c =
    let index = g.S.Source.index c.args.desk.now.source in let state = c.args.desk.now.state in let w = c.args.lines.now in
    let line = c.first_line.result.now in
    record {
      text = desk_reply index state line;
      scored = desk_steps index state line;
      side = side_ok (told_reply (desk_reply index state c.first_line.result.now) c.in-Ok-On.field-0-is c.in-Ok-On.ensures.reply);
      counted = c.answer_line.ensures.steps;
      goes = subst (λ (n : Waiting). Moves index w n state c.answer_line.new.self.state (desk_reply index state line) (desk_steps index state line)) (sym c.pass.ensures)
          (subst (λ (s : DeskState). Moves index w (passed_to c.args.end w) state s (desk_reply index state line) (desk_steps index state line))
          (sym (c.in-Ok-On.ensures.after ∙ ap (λ (went : Went). left_where {E = WriteFault} (Ok went) state (desk_after index state c.first_line.result.now)) c.in-Ok-On.field-0-is))
          (line_moves c.a_line_loses_one_byte.ensures c.pending_bytes_wait.ensures.line c.lines_are_passed.ensures.line index w state c.args.end line c.requires c.first_line.ensures (goes_on c.in-Ok-On.field-0 (is_end line) c.in-Ok-On.field-0-is c.in-Ok-On.ensures.end)));
    }

pub returns-in-Ok-End-clause-answers : goal.returns-in-Ok-End-clause-answers
returns-in-Ok-End-clause-answers g c =
    let index = g.S.Source.index c.args.desk.now.source in let state = c.args.desk.now.state in let w = c.args.lines.now in
    let line = c.first_line.result.now in
    record {
      text = desk_reply index state line;
      scored = desk_steps index state line;
      side = side_ok (told_reply (desk_reply index state c.first_line.result.now) c.in-Ok-End.field-0-is c.in-Ok-End.ensures.reply);
      counted = c.answer_line.ensures.steps;
      goes = line_finishes c.a_line_loses_one_byte.ensures c.pending_bytes_wait.ensures.line c.lines_are_passed.ensures.line index w state c.args.end line c.requires c.first_line.ensures (goes_last c.in-Ok-End.field-0 (is_end line) c.in-Ok-End.field-0-is c.in-Ok-End.ensures.end);
    }

pub returns-in-Ok-NoMemory-clause-answers : goal.returns-in-Ok-NoMemory-clause-answers
returns-in-Ok-NoMemory-clause-answers g c =
    let index = g.S.Source.index c.args.desk.now.source in let state = c.args.desk.now.state in let w = c.args.lines.now in
    let none = opening_steps index state c.first_line.result.now (c.in-Ok-NoMemory.ensures.memory c.in-Ok-NoMemory.field-0-is) in
    record {
      text = [];
      scored = 0;
      side = side_ok (told_reply (desk_reply index state c.first_line.result.now) c.in-Ok-NoMemory.field-0-is c.in-Ok-NoMemory.ensures.reply);
      counted = omega (arith, c.answer_line.ensures.steps, none);
      goes = subst (λ (s : DeskState). Moves index w w state s [] 0) (sym (c.in-Ok-NoMemory.ensures.after ∙ ap (λ (went : Went). left_where {E = WriteFault} (Ok went) state (desk_after index state c.first_line.result.now)) c.in-Ok-NoMemory.field-0-is)) (stays index w state);
    }

pub returns-in-Err-clause-answers : goal.returns-in-Err-clause-answers
returns-in-Err-clause-answers g c =
    let index = g.S.Source.index c.args.desk.now.source in let state = c.args.desk.now.state in let w = c.args.lines.now in
    let line = c.first_line.result.now in
    record {
      text = desk_reply index state line;
      scored = desk_steps index state line;
      side = side_err c.in-Err.ensures.reply;
      counted = c.answer_line.ensures.steps;
      goes = line_cuts c.a_line_loses_one_byte.ensures c.pending_bytes_wait.ensures.line c.lines_are_passed.ensures.line index w state c.args.end line c.requires c.first_line.ensures;
    }
