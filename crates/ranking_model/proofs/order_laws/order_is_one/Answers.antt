use Rattle.ranking_model.proofs.Sorting.{one_order}
use Rattle.ranking_model.proofs.order_laws.order_is_one.Goals as goal

pub returns : goal.returns
returns g c = λ cmp xs ys total antisymmetric moved first second. one_order cmp total antisymmetric xs ys moved first second
