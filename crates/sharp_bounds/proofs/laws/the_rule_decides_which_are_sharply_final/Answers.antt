use Rattle.ranking_model.specs.Plan.{plan_of}
use Rattle.sharp_bounds.proofs.Reaching.{plan_weights, are_limits}
use Rattle.sharp_bounds.proofs.Sharp.{sharp_by_rule, changed_by_one}
use Rattle.sharp_bounds.proofs.laws.the_rule_decides_which_are_sharply_final.Goals as goal

pub returns-clause-limits : goal.returns-clause-limits
returns-clause-limits c = λ docs n flat terms is are. are_limits n (plan_of docs flat terms) (plan_weights docs flat terms is are)

pub returns-clause-sharp : goal.returns-clause-sharp
returns-clause-sharp c = λ docs n k flat terms is are rule. sharp_by_rule (plan_of docs flat terms) k (plan_weights docs flat terms is are) n rule

pub returns-clause-changed : goal.returns-clause-changed
returns-clause-changed c = λ docs n k flat terms is are rule. changed_by_one (plan_of docs flat terms) k (plan_weights docs flat terms is are) n rule
