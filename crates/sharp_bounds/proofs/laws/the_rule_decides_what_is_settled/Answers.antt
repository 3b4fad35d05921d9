use Rattle.sharp_bounds.proofs.Settling.{settled_by_rule}
use Rattle.sharp_bounds.proofs.Changing.{changed_by_rule}
use Rattle.sharp_bounds.proofs.laws.the_rule_decides_what_is_settled.Goals as goal

pub returns-clause-settled : goal.returns-clause-settled
returns-clause-settled c = λ scores limits k bound are rule. settled_by_rule scores limits k bound are rule

pub returns-clause-changed : goal.returns-clause-changed
returns-clause-changed c = λ scores limits k bound are rule. changed_by_rule scores limits k bound are rule
