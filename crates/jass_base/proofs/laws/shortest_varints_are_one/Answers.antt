use Rattle.jass_base.proofs.ShortVarints.{short_is_shortest, shortest_is_short}
use Rattle.jass_base.proofs.laws.shortest_varints_are_one.Goals as goal

pub returns : goal.returns
returns c = record { is = short_is_shortest; one = shortest_is_short }
