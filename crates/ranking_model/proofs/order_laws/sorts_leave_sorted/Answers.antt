use Rattle.ranking_model.proofs.Sorting.{sort_is_sorted, stable_is_sorted}
use Rattle.ranking_model.proofs.order_laws.sorts_leave_sorted.Goals as goal

pub returns-clause-stable : goal.returns-clause-stable
returns-clause-stable g c = λ cmp xs ys total order stable. stable_is_sorted cmp total xs ys order stable

pub returns-clause-unstable : goal.returns-clause-unstable
returns-clause-unstable g c = λ cmp xs ys total antisymmetric moved order. sort_is_sorted cmp total antisymmetric xs ys moved order
