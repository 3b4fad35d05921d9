use Rattle.index_version1.proofs.LongFiles.{front_tells}
use Rattle.index_version1.proofs.laws.the_front_is_enough.Goals as goal

pub returns : goal.returns
returns c = front_tells
