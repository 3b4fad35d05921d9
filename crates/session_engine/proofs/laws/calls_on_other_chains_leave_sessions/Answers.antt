use Rattle.session_engine.proofs.Standing.{all_stay, stays}
use Rattle.session_engine.proofs.laws.calls_on_other_chains_leave_sessions.Goals as goal

pub returns-clause-one : goal.returns-clause-one
returns-clause-one c = let leave = c.calls_on_other_chains_leave_scores.ensures in stays leave.stand leave.settled leave.view leave.same

pub returns-clause-all : goal.returns-clause-all
returns-clause-all c = let leave = c.calls_on_other_chains_leave_scores.ensures in all_stay leave.stand leave.settled leave.view leave.same
