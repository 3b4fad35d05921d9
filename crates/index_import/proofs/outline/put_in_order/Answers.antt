-- The lists as the sort leaves them.
use Rattle.shared_lemmas.proofs.Common.{rules, answers_always}
use Rattle.index_import.specs.Private.Outlining.{earlier}
use Rattle.index_import.proofs.Again.{on_ok}
use Rattle.index_import.proofs.Outlining.{earlier_orders}
use Rattle.index_import.proofs.outline.put_in_order.Goals as goal

pub returns-clause-docs : goal.returns-clause-docs
returns-clause-docs c = on_ok c.lengths.result _ c.in_ok-put_in_order.ensures

pub returns-clause-sorted : goal.returns-clause-sorted
returns-clause-sorted c = on_ok c.lengths.result _ (c.in_ok-sort_by.ensures.sorted earlier earlier_orders (answers_always _ _ _ (λ f a r f' called. search rules)))
