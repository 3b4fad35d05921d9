use Rattle.ranking_model.specs.Plan.{plan_of}
use Rattle.sharp_bounds.proofs.Reaching.{plan_once}
use Rattle.sharp_bounds.proofs.Out.{out_later, no_hit}
use Rattle.sharp_bounds.proofs.out_laws.who_is_out_stays_out.Goals as goal

pub returns-clause-later : goal.returns-clause-later
unfolding plan_of
returns-clause-later c = λ docs n m k doc flat terms is more inside out. out_later n m k doc (plan_of docs flat terms) (plan_once docs flat terms is) more inside out

pub returns-clause-no_hit : goal.returns-clause-no_hit
returns-clause-no_hit c = λ n k doc plan out. no_hit n k doc plan out
