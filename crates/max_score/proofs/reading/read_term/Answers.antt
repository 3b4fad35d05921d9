use Rattle.shared_lemmas.proofs.Common.{arith, []}
use Rattle.index_model.specs.Index.{SegmentData}
use Rattle.index_model.specs.Querying.{segments_at}
use Rattle.max_score.proofs.Stamps.{all_read, none_read, one_more}
use Rattle.max_score.proofs.reading.read_term.Goals as goal

pub loop-segment-init : goal.loop-segment-init
loop-segment-init g c = none_read (segments_at (g.S.Source.index c.args.source.now).terms c.args.term) c.args.impacts.now c.args.steps.now c.requires.least

pub loop-segment-preserved : goal.loop-segment-preserved
loop-segment-preserved g c =
    let most = c.max-greatest.ensures in
    let none : SegmentData = record { impact = 0; docs = [] } in
    one_more (segments_at (g.S.Source.index c.args.source.now).terms c.args.term) c.loop-segment.segment none c.args.impacts.now c.loop-segment.impacts c.read_segment.new.impacts
    c.loop-segment.greatest c.args.steps.now c.loop-segment.steps c.head-head.result.impact c.max-greatest.result c.read_segment.new.steps
    c.loop-segment.invariant (omega (arith, c.loop-segment-test.true, c.segments-segment-end.ensures)) c.head-head.ensures.impact c.read_segment.ensures.impacts
    (grind (arith, most)) (grind (arith, most)) (omega (arith, c.read_segment.ensures.steps, c.head-head.ensures.count))

pub returns-clause-impacts : goal.returns-clause-impacts
returns-clause-impacts g c = (all_read (segments_at (g.S.Source.index c.args.source.now).terms c.args.term) c.loop-segment.segment c.args.impacts.now c.loop-segment.impacts c.loop-segment.greatest c.args.steps.now c.loop-segment.steps
    c.loop-segment.invariant (omega (arith, c.loop-segment-test.false, c.segments-segment-end.ensures))).0

pub returns-clause-greatest : goal.returns-clause-greatest
returns-clause-greatest g c = c.loop-segment.invariant.greatest_is

pub returns-clause-steps : goal.returns-clause-steps
returns-clause-steps g c = (all_read (segments_at (g.S.Source.index c.args.source.now).terms c.args.term) c.loop-segment.segment c.args.impacts.now c.loop-segment.impacts c.loop-segment.greatest c.args.steps.now c.loop-segment.steps
    c.loop-segment.invariant (omega (arith, c.loop-segment-test.false, c.segments-segment-end.ensures))).1
