use Rattle.text_lines.proofs.Dividing.{numbers_of_lines}
use Rattle.text_lines.proofs.lines.Lines.new.Goals as goal

pub returns-clause-numbers : goal.returns-clause-numbers
returns-clause-numbers c = numbers_of_lines c.args.text.now
