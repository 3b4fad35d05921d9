use Rattle.sharp_bounds.proofs.Between.{settled_narrower}
use Rattle.sharp_bounds.proofs.laws.a_narrower_interval_is_settled.Goals as goal

pub returns : goal.returns
returns c = λ scores limits later left k. settled_narrower scores limits later left k
