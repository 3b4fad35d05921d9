use Rattle.weights.proofs.Rising.{saturated-falls, saturated-rises}
use Rattle.weights.proofs.laws.bm25_follows_frequencies.Goals as goal

pub returns-clause-rises : goal.returns-clause-rises
returns-clause-rises c = saturated-rises

pub returns-clause-falls : goal.returns-clause-falls
returns-clause-falls c = saturated-falls
