use Rattle.ranking_model.proofs.Orders.{entry_total, entry_same}
use Rattle.ranking_model.proofs.order_laws.entries_have_a_total_order.Goals as goal

pub returns-clause-total : goal.returns-clause-total
returns-clause-total g c = λ cmp total. entry_total cmp total

pub returns-clause-differ : goal.returns-clause-differ
returns-clause-differ g c = λ cmp same. entry_same cmp same
