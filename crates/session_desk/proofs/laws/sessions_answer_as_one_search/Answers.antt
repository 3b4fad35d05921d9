use Rattle.session_desk.proofs.Grants.{grant_told, top_told, why_told}
use Rattle.session_desk.proofs.laws.sessions_answer_as_one_search.Goals as goal

pub returns-clause-grant : goal.returns-clause-grant
returns-clause-grant c = grant_told

pub returns-clause-why : goal.returns-clause-why
returns-clause-why c = why_told

pub returns-clause-top : goal.returns-clause-top
returns-clause-top c = top_told
