use Rattle.std.proofs.Common.{◌∙◌, ap}
use Rattle.jass_top.proofs.Below.{Bm25, Of, collection_index}
use Rattle.jass_top.specs.TrialMeaning.{trial_index}
use Rattle.jass_top.proofs.trial.index_trial.Goals as goal

pub returns-in-Ok-clause-index : goal.returns-in-Ok-clause-index
unfolding trial_index
returns-in-Ok-clause-index c = c.in-Ok.ensures.made ∙ ap (collection_index Bm25 (Of 8)) c.in_ok-collection.ensures.collection
