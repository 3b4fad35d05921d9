use Rattle.std.proofs.Common.{◌≡◌, ◌≤◌, ℕ, [], length, map, drop, All}
use Rattle.index_version1.proofs.Below.{segment_data, read_segments, HeadsFall, with_segments}
use Rattle.index_version1.specs.Private.Tables.{Marks, head_data}
use Rattle.index_version1.proofs.SegmentSteps.{all_docs}
use Rattle.index_version1.proofs.segment.read_segments.Given as goal

abbrev pub invariant-loop-head : goal.invariant-loop-head
invariant-loop-head l = record {
  read : read_segments l.bytes l.d [] (map head_data l.heads) l.fn.from
      ≡ with_segments (map segment_data l.segments) (read_segments l.bytes l.d (all_docs (map segment_data l.segments)) (map head_data (drop l.head-index l.heads)) l.at);
  at : l.at ≤ length l.bytes;
  fall : (above : ℕ) × HeadsFall l.d above (map head_data (drop l.head-index l.heads));
  marks : Marks l.seen l.mark (all_docs (map segment_data l.segments));
  most : (most : ℕ) → All (λ n. n ≤ most) l.fn.seen → l.mark ≤ most → All (λ n. n ≤ most) l.seen;
}
