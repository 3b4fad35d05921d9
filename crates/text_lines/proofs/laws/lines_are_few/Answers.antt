use Rattle.text_lines.proofs.Dividing.{few_lines}
use Rattle.text_lines.proofs.laws.lines_are_few.Goals as goal

pub returns : goal.returns
returns c = few_lines
