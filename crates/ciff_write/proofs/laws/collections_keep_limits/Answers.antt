use Rattle.ciff_write.proofs.Collections.{keeps_limits}
use Rattle.ciff_write.proofs.laws.collections_keep_limits.Goals as goal

pub returns : goal.returns
returns c = keeps_limits
