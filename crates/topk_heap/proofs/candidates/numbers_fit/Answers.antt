use Rattle.std.proofs.Common.{arith}
use Rattle.topk_heap.proofs.candidates.numbers_fit.Goals as goal

pub returns : goal.returns
returns c = λ i. omega (arith, c.type_inv.keys i)
