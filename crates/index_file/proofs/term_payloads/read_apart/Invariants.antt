use Rattle.std.proofs.Common.{◌≡◌, ◌≤◌, [], length, take, drop, flat_map, slice_range}
use Rattle.index_file.proofs.Below.{read_segments, with_segments}
use Rattle.index_file.specs.Marks.{AreMarks}
use Rattle.index_file.specs.Private.Payloads.{payload_place, segments_from}
use Rattle.index_file.proofs.SegmentLists.{GroupsTill, PayloadsTill, docs_of}
use Rattle.index_file.proofs.term_payloads.read_apart.Given as goal

abbrev pub invariant-segments : goal.invariant-segments
invariant-segments l = record {
  read : read_segments l.bytes l.docs [] (slice_range l.heads l.first l.last) l.from
      ≡ with_segments (segments_from l.bytes l.docs (take l.i (slice_range l.heads l.first l.last)) l.from)
      (read_segments l.bytes l.docs (flat_map docs_of (segments_from l.bytes l.docs (take l.i (slice_range l.heads l.first l.last)) l.from)) (drop l.i (slice_range l.heads l.first l.last)) l.at);
  payloads : PayloadsTill l.bytes l.docs (slice_range l.heads l.first l.last) l.from l.i;
  groups : GroupsTill (slice_range l.heads l.first l.last) l.from l.i l.fn.groups l.groups;
  marks : AreMarks l.now (flat_map docs_of (segments_from l.bytes l.docs (take l.i (slice_range l.heads l.first l.last)) l.from)) l.marks;
  count : l.docs ≤ length l.marks;
  place : l.at ≡ payload_place (slice_range l.heads l.first l.last) l.from l.i;
  at : l.at ≤ length l.bytes;
}
