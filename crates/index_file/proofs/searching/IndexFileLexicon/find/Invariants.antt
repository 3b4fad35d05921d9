use Rattle.std.proofs.Common.{◌-◌}
use Rattle.index_file.proofs.Halves.{Halves}
use Rattle.index_file.proofs.searching.IndexFileLexicon.find.Given as goal

abbrev pub invariant-halves : goal.invariant-halves
invariant-halves l = Halves l.self.index.terms l.term l.from l.to

abbrev pub decreases-halves : goal.decreases-halves
decreases-halves l = l.to - l.from
