use Rattle.std.proofs.Common.{drop}
use Rattle.impact_segments.proofs.OneTerm.{Paired}
use Rattle.impact_segments.proofs.terms.impacts_of.Given as goal

abbrev pub invariant-loop-posting : goal.invariant-loop-posting
invariant-loop-posting l = Paired l.weigher.rule l.weigher.docs.now l.bits l.range l.list l.pairs.items (drop l.posting-index l.posting-items)
