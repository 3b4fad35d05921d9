use Rattle.shared_lemmas.proofs.Common.{arith, length}
use Rattle.max_score.proofs.Reaching.{missed_by_both}
use Rattle.max_score.proofs.starting.first_threshold.Goals as goal

pub loop-list-preserved : goal.loop-list-preserved
loop-list-preserved g c =
    missed_by_both (length (g.S.Source.index c.args.source.now).names) c.args.k c.loop-list.threshold c.passed_by.result c.max-threshold.result c.loop-list.list-index c.args.lists.now c.list-item.result
    c.loop-list.invariant (omega (arith, c.loop-list-test.true)) c.list-item.is c.passed_by.ensures c.max-threshold.ensures
