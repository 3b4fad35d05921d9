use Rattle.ranking_model.proofs.Growing.{sorted_map}
use Rattle.ranking_model.proofs.order_laws.sorted_goes_through_a_map.Goals as goal

pub returns : goal.returns
returns g c = λ f cmp mapped xs same. sorted_map f cmp mapped same xs
