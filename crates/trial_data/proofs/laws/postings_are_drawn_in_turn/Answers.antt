use Rattle.trial_data.proofs.Drawing.{ends, in_turn}
use Rattle.trial_data.proofs.laws.postings_are_drawn_in_turn.Goals as goal

pub returns-clause-more : goal.returns-clause-more
returns-clause-more c = in_turn

pub returns-clause-end : goal.returns-clause-end
returns-clause-end c = ends
