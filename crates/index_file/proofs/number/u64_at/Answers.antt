use Rattle.index_file.proofs.Loads.{loads_64}
use Rattle.index_file.proofs.number.u64_at.Goals as goal

pub returns : goal.returns
returns c = loads_64 c.args.bytes.now (λ i. (c.type_inv.bytes i).fits) c.args.at
