use Rattle.text_lines.proofs.Dividing.{no_lines, line_and_more, one_line}
use Rattle.text_lines.proofs.laws.lines_end_by_line_feeds.Goals as goal

pub returns-clause-none : goal.returns-clause-none
returns-clause-none c = no_lines

pub returns-clause-more : goal.returns-clause-more
returns-clause-more c = line_and_more

pub returns-clause-last : goal.returns-clause-last
returns-clause-last c = one_line
