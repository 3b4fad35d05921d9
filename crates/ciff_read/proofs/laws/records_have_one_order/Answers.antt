use Rattle.ciff_read.proofs.Ordered.{one_order}
use Rattle.ciff_read.proofs.laws.records_have_one_order.Goals as goal

pub returns : goal.returns
returns c = one_order
