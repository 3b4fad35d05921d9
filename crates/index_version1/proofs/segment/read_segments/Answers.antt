use Rattle.shared_lemmas.proofs.Common.{[], subst, ◌+◌, map, drop, get_or, get_or_default}
use Rattle.index_version1.proofs.Below.{Varbyte, segment_data, read_segments}
use Rattle.index_version1.specs.declared.head.Head.{Head}
use Rattle.index_version1.specs.Private.Tables.{Marks, head_data}
use Rattle.index_version1.proofs.SegmentSteps.{all_docs, heads_next, segments_on, docs_on, fall_on}
use Rattle.index_version1.proofs.segment.read_segments.Goals as goal

pub loop-head-preserved : goal.loop-head-preserved
loop-head-preserved c =
    let bytes = c.args.bytes.now in
    let d = c.args.d in
    let heads = c.args.heads.now in
    let i = c.loop-head.head-index in
    let h : Head = get_or heads i (record { impact = 0; count = 0; codec = Varbyte; size = 0 }) in
    let next = heads_next heads i h c.loop-head-test.true (get_or_default heads i (record { impact = 0; count = 0; codec = Varbyte; size = 0 }) h c.loop-head-test.true) in
    let earlier = all_docs (map segment_data c.loop-head.segments) in
    let at = c.loop-head.at in
    record {
      read = segments_on bytes d (read_segments bytes d [] (map head_data heads) c.args.from) c.loop-head.segments c.push.new.self c.in_ok-segment.segment (head_data h) (map head_data (drop i heads)) (map head_data (drop (i + 1) heads)) at (at + h.size)
          c.in-Ok.ensures.ok next c.loop-head.invariant.read (c.in_ok-segment.ensures.exact earlier c.loop-head.invariant.marks) c.in_ok-segment.ensures.segment;
      at = c.in_ok-segment.ensures.within;
      fall = fall_on d c.loop-head.invariant.fall.0 (head_data h) (map head_data (drop i heads)) (map head_data (drop (i + 1) heads)) next c.loop-head.invariant.fall.1;
      marks = subst (Marks c.read_segment.new.seen c.args.mark) (docs_on bytes d c.loop-head.segments c.push.new.self c.in_ok-segment.segment (head_data h) at c.in-Ok.ensures.ok c.in_ok-segment.ensures.segment) (c.in_ok-segment.ensures.marks earlier c.loop-head.invariant.marks);
      most = λ most few small. c.in_ok-segment.ensures.most most (c.loop-head.invariant.most most few small) small;
    }
