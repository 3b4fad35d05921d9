use Rattle.std.proofs.Common.{length}
use Rattle.max_score.specs.Private.Lists.{scores_in}
use Rattle.max_score.specs.Private.Standing.{Misses}
use Rattle.max_score.proofs.starting.first_threshold.Given as goal

abbrev pub invariant-loop-list : goal.invariant-loop-list
invariant-loop-list g l = Misses (scores_in (length (g.S.Source.index l.source).names) l.lists) l.k l.threshold 0
