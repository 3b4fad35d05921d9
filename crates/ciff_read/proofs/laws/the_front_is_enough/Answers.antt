use Rattle.ciff_read.proofs.FrontLaws.{front_enough}
use Rattle.ciff_read.proofs.laws.the_front_is_enough.Goals as goal

pub returns : goal.returns
returns c = front_enough
