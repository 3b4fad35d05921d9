use Rattle.jass_base.proofs.Gaps.{length-gaps_from, gaps_below, gaps_from-append}
use Rattle.jass_base.proofs.laws.gaps_of_docs.Goals as goal

pub returns : goal.returns
returns c = record { count = length-gaps_from; below = gaps_below; parts = gaps_from-append }
