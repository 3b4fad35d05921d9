use Rattle.index_file.proofs.Loads.{loads_16}
use Rattle.index_file.proofs.number.u16_at.Goals as goal

pub returns : goal.returns
returns c = loads_16 c.args.bytes.now (λ i. (c.type_inv.bytes i).fits) c.args.at
