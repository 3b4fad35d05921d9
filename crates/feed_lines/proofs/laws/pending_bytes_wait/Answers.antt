use Rattle.feed_lines.proofs.Passing.{holds_none, holds_taken, holds_still, holds_rest, holds_free, holds_all, holds_many}
use Rattle.feed_lines.proofs.laws.pending_bytes_wait.Goals as goal

pub returns-clause-none : goal.returns-clause-none
returns-clause-none c = holds_none

pub returns-clause-taken : goal.returns-clause-taken
returns-clause-taken c = holds_taken

pub returns-clause-stays : goal.returns-clause-stays
returns-clause-stays c = holds_still

pub returns-clause-line : goal.returns-clause-line
returns-clause-line c = holds_rest

pub returns-clause-free : goal.returns-clause-free
returns-clause-free c = holds_free

pub returns-clause-whole : goal.returns-clause-whole
returns-clause-whole c = holds_all

pub returns-clause-long : goal.returns-clause-long
returns-clause-long c = holds_many
