use Rattle.feed_lines.proofs.Ending.{none_ended, one_ended}
use Rattle.feed_lines.proofs.laws.lines_that_end_by_line_feeds.Goals as goal

pub returns-clause-none : goal.returns-clause-none
returns-clause-none c = none_ended

pub returns-clause-more : goal.returns-clause-more
returns-clause-more c = one_ended
