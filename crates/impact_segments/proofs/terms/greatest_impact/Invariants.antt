use Rattle.std.proofs.Common.{◌≡◌, drop, max}
use Rattle.jass_base.specs.Terms.{greatest_impact}
use Rattle.impact_segments.proofs.terms.greatest_impact.Given as goal

abbrev pub invariant-loop-term : goal.invariant-loop-term
invariant-loop-term l = max l.greatest (greatest_impact (drop l.term-index l.terms)) ≡ greatest_impact l.terms
