use Rattle.ranking_model.specs.Plan.{plan_of}
use Rattle.sharp_bounds.proofs.Reaching.{plan_weights}
use Rattle.sharp_bounds.proofs.Out.{untouched_out}
use Rattle.sharp_bounds.proofs.out_laws.who_is_untouched_is_out.Goals as goal

pub returns : goal.returns
unfolding plan_of
returns c = λ docs n k doc flat terms is are inside full stay none. untouched_out n k doc (plan_of docs flat terms) (plan_weights docs flat terms is are) inside full stay none
