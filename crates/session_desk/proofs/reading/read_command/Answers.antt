-- A line is text, and then its words decide.
use Rattle.std.proofs.Common.{◌∙◌, sym, ap, rules}
use Rattle.query_reader.specs.Texts.{blank_runs}
use Rattle.session_desk.specs.Lines.{command_in}
use Rattle.session_desk.proofs.Wording.{bad_text, good_text}
use Rattle.session_desk.proofs.reading.read_command.Goals as goal

pub returns-in_default-clause-command : goal.returns-in_default-clause-command
returns-in_default-clause-command c = sym (bad_text c.args.line.now (search rules) c.in_default.ensures.cases.0)

pub returns-clause-command : goal.returns-clause-command
returns-clause-command c = c.command_of.ensures.command ∙ ap command_in (sym c.in_ok-verb.ensures.0)
    ∙ ap (λ t. command_in (blank_runs t)) c.in-Ok.ensures.cases.0 ∙ sym (good_text c.args.line.now (search rules) c.in-Ok.ensures.cases.1)
