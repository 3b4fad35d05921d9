use Rattle.std.proofs.Common.{◌-◌}
use Rattle.ciff_read.specs.Private.KeptEntries.{terms_in}
use Rattle.ciff_read.proofs.RisingTerms.{Halves}
use Rattle.ciff_read.proofs.rising_lists.RisingLists.has.Given as goal

abbrev pub invariant-halves : goal.invariant-halves
invariant-halves l = Halves (terms_in l.self) l.term l.from l.to

abbrev pub decreases-halves : goal.decreases-halves
decreases-halves l = l.to - l.from
