use Rattle.ranking_model.specs.Plan.{plan_of}
use Rattle.sharp_bounds.proofs.Reaching.{plan_once}
use Rattle.certain_hits.proofs.Keeping.{certain_answer, certain_stays, certain_rises}
use Rattle.certain_hits.proofs.laws.a_certain_document_stands.Goals as goal

pub returns-clause-answer : goal.returns-clause-answer
returns-clause-answer c = λ docs n m k doc flat terms is more. certain_answer (plan_of docs flat terms) (plan_once docs flat terms is) n m k more doc

pub returns-clause-certain : goal.returns-clause-certain
returns-clause-certain c = λ docs n m k doc flat terms is more. certain_stays (plan_of docs flat terms) (plan_once docs flat terms is) n m k more doc

pub returns-clause-never_fewer : goal.returns-clause-never_fewer
returns-clause-never_fewer c = λ docs n m k flat terms is more. certain_rises (plan_of docs flat terms) (plan_once docs flat terms is) n m k more
