use Rattle.std.proofs.Common.{◌+◌, ◌∙◌, ◌++◌, arith, ap, drop}
use Rattle.index_model.specs.Querying.{segments_at}
use Rattle.session_engine.specs.Plans.{heads_at}
use Rattle.session_engine.proofs.Gathering.{heads_all, heads_step}
use Rattle.session_engine.proofs.heads.gather_heads.Goals as goal

pub loop-segment-preserved : goal.loop-segment-preserved
loop-segment-preserved g c =
    let segments = segments_at (g.S.Source.index c.args.source.now).terms c.args.named.term in
    ap (λ hs. hs ++ heads_at c.args.term_place (c.loop-segment.segment + 1) (drop (c.loop-segment.segment + 1) segments)) c.in_ok-push.ensures.items
    ∙ heads_step c.args.term_place c.loop-segment.segment segments c.loop-segment.heads.items (c.args.heads.now.items ++ heads_at c.args.term_place 0 segments) c.head-head.result.impact c.head-head.result.count
    (let many = c.segments-segment-end.ensures in let test = c.loop-segment-test.true in omega arith) c.head-head.ensures.impact c.head-head.ensures.count c.loop-segment.invariant

pub returns-clause-heads : goal.returns-clause-heads
returns-clause-heads g c =
    heads_all c.args.term_place c.loop-segment.segment (segments_at (g.S.Source.index c.args.source.now).terms c.args.named.term) c.loop-segment.heads.items _
    (let many = c.segments-segment-end.ensures in let test = c.loop-segment-test.false in omega arith) c.loop-segment.invariant
