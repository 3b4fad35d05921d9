use Rattle.std.proofs.Common.{◌≡◌, ◌++◌, ◌+◌, ◌≤◌, All, take, drop}
use Rattle.jass_base.specs.declared.query_term.QueryTerm.{QueryTerm}
use Rattle.index_model.specs.Querying.{query_segments, query_segments_from}
use Rattle.run_audit.specs.Private.Reading.{plan_postings}
use Rattle.run_audit.proofs.reading.read_segments.Given as goal

abbrev pub invariant-loop-named : goal.invariant-loop-named
invariant-loop-named g l = record {
  place : l.term_place ≡ l.named-index;
  segments : l.segments.items ++ query_segments_from l.term_place (drop l.named-index l.terms) l.index.index.terms ≡ query_segments l.index.index l.terms;
  times : All (λ (n : QueryTerm). n.times ≤ 255) (take l.named-index l.terms);
  steps : l.steps ≡ l.fn.steps + plan_postings l.segments.items;
}
