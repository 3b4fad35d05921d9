use Rattle.ranking_model.specs.Plan.{plan_of}
use Rattle.sharp_bounds.proofs.Reaching.{plan_once}
use Rattle.sharp_bounds.proofs.Sharp.{sharp_stands, sharp_stays}
use Rattle.sharp_bounds.proofs.laws.a_sharply_final_answer_stands.Goals as goal

pub returns-clause-answer : goal.returns-clause-answer
returns-clause-answer c = λ docs n m k flat terms is more sharp. sharp_stands n m k (plan_of docs flat terms) (plan_once docs flat terms is) more sharp

pub returns-clause-sharpness : goal.returns-clause-sharpness
returns-clause-sharpness c = λ docs n m k flat terms is more sharp. sharp_stays n m k (plan_of docs flat terms) (plan_once docs flat terms is) more sharp
