use Rattle.std.proofs.Common.{◌+◌, ◌≤◌, arith}
use Rattle.index_model.specs.Querying.{segments_at}
use Rattle.session_engine.specs.Plans.{postings_at}
use Rattle.session_engine.proofs.Gathering.{counted_all, no_segment, size, sum_step}
use Rattle.session_engine.proofs.frames_needed.counted.Goals as goal

pub loop-segment-preserved : goal.loop-segment-preserved
loop-segment-preserved g c =
    let segments = segments_at (g.S.Source.index c.args.source.now).terms c.args.term in let test = c.loop-segment-test.true in
    let many = c.segments-segment-end.ensures in (
      omega (arith, c.min-sum.ensures),
      sum_step size segments c.loop-segment.segment c.args.limit c.loop-segment.sum c.min-sum.result (c.args.count + postings_at (g.S.Source.index c.args.source.now).terms c.args.term) no_segment (omega arith)
          (let limit : c.args.limit ≤ 4294967295 = omega arith in omega (arith, c.min-sum.ensures, c.saturating_add.ensures, c.head.ensures.count)) c.loop-segment.invariant.1,
    )

pub returns : goal.returns
returns g c =
    let segments = segments_at (g.S.Source.index c.args.source.now).terms c.args.term in
    counted_all size segments c.loop-segment.segment c.loop-segment.sum c.args.limit (c.args.count + postings_at (g.S.Source.index c.args.source.now).terms c.args.term)
    (let many = c.segments-segment-end.ensures in let test = c.loop-segment-test.false in omega arith) c.loop-segment.invariant.0 c.loop-segment.invariant.1
