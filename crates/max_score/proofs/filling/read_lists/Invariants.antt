use Rattle.max_score.proofs.ListsRead.{AreReadTo}
use Rattle.max_score.proofs.filling.read_lists.Given as goal

abbrev pub invariant-loop-list : goal.invariant-loop-list
invariant-loop-list g l = AreReadTo (g.S.Source.index l.source) l.fn.lists l.lists l.list-index l.bound l.fn.steps l.steps
