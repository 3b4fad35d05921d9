use Rattle.session_desk.proofs.Refusing.{line_left, line_replied, line_unpaid}
use Rattle.session_desk.proofs.laws.refused_lines_leave_the_state.Goals as goal

pub returns-clause-reply : goal.returns-clause-reply
returns-clause-reply c = line_replied

pub returns-clause-after : goal.returns-clause-after
returns-clause-after c = line_left

pub returns-clause-steps : goal.returns-clause-steps
returns-clause-steps c = line_unpaid
