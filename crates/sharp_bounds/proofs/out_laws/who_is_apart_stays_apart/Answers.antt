use Rattle.ranking_model.specs.Plan.{plan_of}
use Rattle.sharp_bounds.proofs.Reaching.{plan_once}
use Rattle.sharp_bounds.proofs.Out.{apart_later}
use Rattle.sharp_bounds.proofs.out_laws.who_is_apart_stays_apart.Goals as goal

pub returns : goal.returns
unfolding plan_of
returns c = λ docs n m ahead behind flat terms is more first second apart. apart_later n m ahead behind (plan_of docs flat terms) (plan_once docs flat terms is) more first second apart
