use Rattle.std.proofs.Common.{◌≡◌, take}
use Rattle.ranking_model.specs.Plan.{granted_sum}
use Rattle.ranking_model.proofs.budget.granted_sum.Given as goal

abbrev pub invariant-loop-budget : goal.invariant-loop-budget
invariant-loop-budget l = l.sum ≡ granted_sum (take l.budget-index l.budgets)
