use Rattle.jass_top.proofs.Sides.{sent, unsent}
use Rattle.jass_top.proofs.search_budgets.gather_hits.Goals as goal

pub returns-in-Ok : goal.returns-in-Ok
returns-in-Ok g c = sent c.in_ok-gather_named.ensures c.in-Ok.ensures.text c.in-Ok.ensures.empty

pub returns-in-Err : goal.returns-in-Err
returns-in-Err g c = unsent c.in_ok-gather_named.ensures c.in-Err.ensures.text
