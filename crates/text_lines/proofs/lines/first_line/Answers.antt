use Rattle.text_lines.proofs.Dividing.{line_to_feed, line_to_end}
use Rattle.text_lines.proofs.lines.first_line.Goals as goal

pub returns-in-Some-clause-lines : goal.returns-in-Some-clause-lines
returns-in-Some-clause-lines c = line_to_feed c.args.text.now c.memchr.result c.in-Some.end c.memchr.ensures c.in-Some.is

pub returns-in-None-clause-lines : goal.returns-in-None-clause-lines
returns-in-None-clause-lines c = line_to_end c.args.text.now c.memchr.result c.memchr.ensures c.in-None.is c.requires
