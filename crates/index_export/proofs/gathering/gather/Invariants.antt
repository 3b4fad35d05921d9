use Rattle.std.proofs.Common.{ℕ, ◌≡◌, ◌++◌, ◌+◌, ◌≤◌, List, drop, length, flat_map, sum_by}
use Rattle.index_model.specs.Index.{SegmentData}
use Rattle.index_model.specs.Querying.{segments_at}
use Rattle.index_export.specs.Exports.{segment_postings}
use Rattle.index_export.proofs.gathering.gather.Given as goal

-- how many documents segments have
abbrev pub docs_count : List SegmentData → ℕ
docs_count segments = sum_by (λ (s : SegmentData). length s.docs) segments

abbrev pub invariant-loop-s : goal.invariant-loop-s
invariant-loop-s g l = record {
  postings : l.postings.items ++ flat_map segment_postings (drop l.s (segments_at l.index.index.terms l.t)) ≡ l.fn.postings.items ++ flat_map segment_postings (segments_at l.index.index.terms l.t);
  steps : l.steps + docs_count (drop l.s (segments_at l.index.index.terms l.t)) ≡ l.fn.steps + docs_count (segments_at l.index.index.terms l.t);
  later : l.fn.steps ≤ l.steps;
}
