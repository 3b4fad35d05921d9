use Rattle.std.proofs.Common.{arith}
use Rattle.weights.proofs.Bounds.{lg_of_rarity}
use Rattle.weights.proofs.weighting.idf.Goals as goal

pub overflow_sub-result : goal.overflow_sub-result
overflow_sub-result c = rw (c.lg.ensures.value, c.rarity.ensures) (lg_of_rarity c.args.docs c.args.n (omega arith) (omega arith) (omega arith)).0

pub returns-clause-limit : goal.returns-clause-limit
returns-clause-limit c =
    rw (c.lg.ensures.value, c.rarity.ensures)
    (let bounds = lg_of_rarity c.args.docs c.args.n (omega arith) (omega arith) (omega arith) in omega (arith, bounds.1))
