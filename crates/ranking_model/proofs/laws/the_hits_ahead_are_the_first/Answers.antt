use Rattle.std.proofs.Common.{sym, ◌∙◌}
use Rattle.ranking_model.specs.Scores.{rank_cmp, hits_from}
use Rattle.ranking_model.proofs.Orders.{rank_total, rank_same}
use Rattle.ranking_model.proofs.Candidates.{first_part, sorted_is_itself}
use Rattle.ranking_model.proofs.laws.the_hits_ahead_are_the_first.Goals as goal

pub returns-clause-in_order : goal.returns-clause-in_order
returns-clause-in_order c = λ scores m hits rest moved ahead few all order.
    sym (sorted_is_itself rank_cmp rank_total rank_same hits order) ∙ first_part rank_cmp rank_total rank_same (hits_from 0 scores) hits rest m moved ahead few all

pub returns-clause-in_any_order : goal.returns-clause-in_any_order
returns-clause-in_any_order c = λ scores m hits rest moved ahead few all. first_part rank_cmp rank_total rank_same (hits_from 0 scores) hits rest m moved ahead few all
