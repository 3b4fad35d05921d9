use Rattle.ranking_model.specs.Plan.{plan_of}
use Rattle.sharp_bounds.proofs.Reaching.{plan_weights}
use Rattle.sharp_bounds.proofs.Telling.{sharp_by_hits, others_out, hits_apart}
use Rattle.sharp_bounds.proofs.out_laws.all_others_out_and_all_hits_apart_is_sharply_final.Goals as goal

pub returns-clause-sharp : goal.returns-clause-sharp
returns-clause-sharp c = λ docs n k flat terms is are outs aparts. sharp_by_hits n k (plan_of docs flat terms) (plan_weights docs flat terms is are) outs aparts

pub returns-clause-out : goal.returns-clause-out
returns-clause-out c = λ docs n k flat terms is are sharp. others_out n k (plan_of docs flat terms) (plan_weights docs flat terms is are) sharp

pub returns-clause-apart : goal.returns-clause-apart
returns-clause-apart c = λ docs n k flat terms is are sharp. hits_apart n k (plan_of docs flat terms) (plan_weights docs flat terms is are) sharp
