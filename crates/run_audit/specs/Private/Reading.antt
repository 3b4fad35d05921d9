-- What is read of an index for a query.
use Rattle.std.specs.Prelude.{ℕ, ◌<◌, List, length, sum_by, All}
use Rattle.jass_base.specs.declared.query_term.QueryTerm.{QueryTerm}
use Rattle.ranking_model.specs.declared.plan_segment.PlanSegment.{PlanSegment}
use Rattle.index_model.specs.Index.{SegmentData}
use Rattle.index_layout.specs.View.{FileView}

-- the terms are the index's
abbrev pub AreKnown : FileView → List QueryTerm → Type 0
AreKnown file terms = All (λ (n : QueryTerm). n.term < length file.index.terms) terms

-- how many postings some segments have, in an index and in a plan
abbrev pub segments_postings : List SegmentData → ℕ
segments_postings segments = sum_by (λ (s : SegmentData). length s.docs) segments

abbrev pub plan_postings : List PlanSegment → ℕ
plan_postings segments = sum_by (λ (s : PlanSegment). length s.docs) segments
