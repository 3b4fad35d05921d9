use Rattle.index_layout.proofs.FileLaws.{size_is}
use Rattle.index_layout.proofs.laws.lengths_are_known.Goals as goal

pub returns : goal.returns
returns c = size_is
