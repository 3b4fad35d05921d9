use Rattle.session_desk.proofs.Grants.{lines_grant}
use Rattle.session_desk.proofs.laws.a_session_has_the_sum_of_its_grants.Goals as goal

pub returns : goal.returns
returns c = lines_grant
