use Rattle.ranking_model.specs.Order.{sorted}
use Rattle.ranking_model.proofs.Sorting.{sorted_ascends, sorted_ascending, sorted_is_permutation}
use Rattle.ranking_model.proofs.order_laws.sorted_is_in_order.Goals as goal

pub returns-clause-order : goal.returns-clause-order
returns-clause-order g c = λ cmp xs total. sorted_ascending cmp total (sorted cmp xs) (sorted_ascends cmp total xs)

pub returns-clause-items : goal.returns-clause-items
returns-clause-items g c = λ cmp xs. sorted_is_permutation cmp xs
