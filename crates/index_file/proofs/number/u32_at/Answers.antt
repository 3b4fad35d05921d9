use Rattle.index_file.proofs.Loads.{loads_32}
use Rattle.index_file.proofs.number.u32_at.Goals as goal

pub returns : goal.returns
returns c = loads_32 c.args.bytes.now (λ i. (c.type_inv.bytes i).fits) c.args.at
