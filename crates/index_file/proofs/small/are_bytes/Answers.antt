use Rattle.std.proofs.Common.{arith}
use Rattle.index_file.proofs.Below.{all_bytes}
use Rattle.index_file.proofs.small.are_bytes.Goals as goal

pub returns : goal.returns
returns c = all_bytes c.args.bytes.now (λ i. omega (arith, c.type_inv.bytes i))
