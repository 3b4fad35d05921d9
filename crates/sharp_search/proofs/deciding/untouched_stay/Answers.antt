use Rattle.shared_lemmas.proofs.Common.{◌∙◌}
use Rattle.sharp_search.proofs.Entering.{untouched_some, untouched_none}
use Rattle.sharp_search.proofs.deciding.untouched_stay.Goals as goal

pub returns-in-Some : goal.returns-in-Some
returns-in-Some c = c.last_stays_before.ensures ∙ untouched_some c.args.k c.args.bound c.in-Some.doc c.args.hits.now c.args.least c.in-Some.is c.if-hits-k.false

pub returns-in-None : goal.returns-in-None
returns-in-None c = untouched_none c.args.k c.args.bound c.args.hits.now c.args.least c.in-None.is c.if-hits-k.false
