use Rattle.ranking_model.specs.Plan.{plan_of}
use Rattle.sharp_bounds.proofs.Reaching.{plan_weights}
use Rattle.sharp_bounds.proofs.Sharp.{stops, one_stop, graded, one_grade}
use Rattle.sharp_bounds.proofs.laws.the_rule_says_where_to_stop.Goals as goal

pub returns-clause-stop : goal.returns-clause-stop
returns-clause-stop c = λ docs budget k flat terms is are. stops (plan_of docs flat terms) k (plan_weights docs flat terms is are) budget

pub returns-clause-one_stop : goal.returns-clause-one_stop
returns-clause-one_stop c = one_stop

pub returns-clause-grade : goal.returns-clause-grade
returns-clause-grade c = λ docs n k flat terms is are. graded (plan_of docs flat terms) k (plan_weights docs flat terms is are) n

pub returns-clause-one_grade : goal.returns-clause-one_grade
returns-clause-one_grade c = one_grade
