use Rattle.ranking_model.proofs.Orders.{plan_total, rank_total, rank_same}
use Rattle.ranking_model.proofs.order_laws.plans_and_rankings_have_a_total_order.Goals as goal

pub returns-clause-plan : goal.returns-clause-plan
returns-clause-plan c = plan_total

pub returns-clause-ranking : goal.returns-clause-ranking
returns-clause-ranking c = rank_total

pub returns-clause-differ : goal.returns-clause-differ
returns-clause-differ c = rank_same
