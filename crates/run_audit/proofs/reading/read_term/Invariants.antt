use Rattle.std.proofs.Common.{◌≡◌, ◌++◌, ◌+◌, ◌≤◌, drop}
use Rattle.index_model.specs.Querying.{query_segments_at, segments_at}
use Rattle.run_audit.specs.Private.Reading.{segments_postings}
use Rattle.run_audit.proofs.reading.read_term.Given as goal

abbrev pub invariant-loop-s : goal.invariant-loop-s
invariant-loop-s g l = record {
  segments : l.segments.items ++ query_segments_at l.term_place l.named (drop l.s (segments_at l.index.index.terms l.named.term)) ≡ l.fn.segments.items ++ query_segments_at l.term_place l.named (segments_at l.index.index.terms l.named.term);
  steps : l.steps + segments_postings (drop l.s (segments_at l.index.index.terms l.named.term)) ≡ l.fn.steps + segments_postings (segments_at l.index.index.terms l.named.term);
  later : l.fn.steps ≤ l.steps;
}
