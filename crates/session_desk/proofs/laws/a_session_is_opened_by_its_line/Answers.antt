use Rattle.session_desk.proofs.Opened.{found_opened, none_granted, opened_alike}
use Rattle.session_desk.proofs.laws.a_session_is_opened_by_its_line.Goals as goal

pub returns-clause-same : goal.returns-clause-same
returns-clause-same c = opened_alike

pub returns-clause-none : goal.returns-clause-none
returns-clause-none c = none_granted

pub returns-clause-found : goal.returns-clause-found
returns-clause-found c = found_opened
