use Rattle.std.proofs.Common.{◌≡◌, length, take, sum_by}
use Rattle.jass_base.specs.declared.segment.Segment.{Segment}
use Rattle.index_write.proofs.sums.segments_postings.Given as goal

abbrev pub invariant-loop-segment : goal.invariant-loop-segment
invariant-loop-segment l = l.postings ≡ sum_by (λ (s : Segment). length s.docs) (take l.segment-index l.segments)
