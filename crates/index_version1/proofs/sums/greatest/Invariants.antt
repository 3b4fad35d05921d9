use Rattle.std.proofs.Common.{◌≡◌, drop, map, max}
use Rattle.index_layout.specs.Heads.{greatest_impact}
use Rattle.index_version1.specs.Private.Tables.{term_heads}
use Rattle.index_version1.proofs.sums.greatest.Given as goal

abbrev pub invariant-loop-term : goal.invariant-loop-term
invariant-loop-term l = max (greatest_impact (map term_heads (drop l.term-index l.terms))) l.greatest ≡ greatest_impact (map term_heads l.terms)
