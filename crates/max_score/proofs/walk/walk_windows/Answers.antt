use Rattle.shared_lemmas.proofs.Common.{◌+◌, arith}
use Rattle.max_score.proofs.Walks.{in_none}
use Rattle.max_score.proofs.walk.walk_windows.Goals as goal

pub walk_marked-requires-clause-unmarked : goal.walk_marked-requires-clause-unmarked
walk_marked-requires-clause-unmarked c = λ i inside none.
    in_none c.args.docs c.args.lists.now c.requires.bounded c.essential-first.result c.windows.from (c.windows.from + i) c.windows.best c.windows.invariant.met c.essential-first.ensures.most (omega arith)
    (omega (arith, c.windows-test.true, c.windows.invariant.inside, inside)) (c.marks-marks.ensures i inside none)
