use Rattle.max_score.proofs.Reaching.{found}
use Rattle.shared_lemmas.proofs.Common.{arith}
use Rattle.max_score.proofs.starting.passed_by.Goals as goal

pub returns-then-seen-k : goal.returns-then-seen-k
returns-then-seen-k g c =
    found (g.S.Source.index c.args.source.now) c.args.list.now c.is_searchable.ensures.is_well_formed c.requires.known c.requires.read
    c.term-term.result c.loop-segment.segment c.args.k c.loop-segment.seen c.from-seen.result c.from.result c.from-then-seen-k.result c.saturating_sub.result c.term-term.ensures
    (omega (arith, c.loop-segment-test.true, c.segments-segment-end.ensures)) (omega (arith, c.from.ensures, c.head-head.ensures.impact)) (omega (arith, c.from-seen.ensures, c.head-head.ensures.count)) c.loop-segment.invariant.0
    (omega (arith, c.if-seen-k.true)) c.from-then-seen-k.ensures (omega (arith, c.saturating_sub.ensures))
