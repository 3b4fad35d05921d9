use Rattle.sharp_search.proofs.Stops.{stays}
use Rattle.sharp_search.proofs.laws.calls_on_other_chains_leave_searches.Goals as goal

pub returns : goal.returns
returns c = stays c.calls_on_other_chains_leave_scores.ensures.stand c.calls_on_other_chains_leave_scores.ensures.settled c.calls_on_other_chains_leave_scores.ensures.view c.calls_on_other_chains_leave_scores.ensures.same
