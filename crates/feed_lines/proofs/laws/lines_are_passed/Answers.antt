use Rattle.feed_lines.proofs.Passing.{passed_none, passed_more, passed_line, passed_whole, passed_all}
use Rattle.feed_lines.proofs.laws.lines_are_passed.Goals as goal

pub returns-clause-none : goal.returns-clause-none
returns-clause-none c = passed_none

pub returns-clause-taken : goal.returns-clause-taken
returns-clause-taken c = passed_more

pub returns-clause-line : goal.returns-clause-line
returns-clause-line c = passed_line c.lines_end_by_line_feeds.ensures.more

pub returns-clause-ended : goal.returns-clause-ended
returns-clause-ended c = passed_whole

pub returns-clause-all : goal.returns-clause-all
returns-clause-all c = passed_all
