-- The segments that a query names, each with its weight: impact times how often the query names the term (Lin and Trotman,
-- ICTIR 2015, for impacts as weights; the number of mentions is this project's).
use Rattle.std.specs.Prelude.{ℕ, suc, ◌*◌, List, [], ◌∷◌, ◌++◌, map}
use Rattle.std.specs.List.{slice_index_or}
use Rattle.jass_base.specs.declared.query_term.QueryTerm.{QueryTerm}
use Rattle.ranking_model.specs.declared.plan_segment.PlanSegment.{PlanSegment}
use Rattle.index_model.specs.Index.{SegmentData, TermData, IndexData}

-- the segments of the term with a number, none where there is no such term
abbrev pub segments_at : List TermData → ℕ → List SegmentData
segments_at terms number = (slice_index_or terms number (record { term = []; segments = [] })).segments

-- the segments of a named term that has this place in the query
abbrev pub query_segments_at : ℕ → QueryTerm → List SegmentData → List PlanSegment
query_segments_at term_place named segments = map (λ (s : SegmentData). record { term_place = term_place; weight = s.impact * named.times; docs = s.docs }) segments

-- the segments of named terms, of which the first has this place
abbrev pub query_segments_from : ℕ → List QueryTerm → List TermData → List PlanSegment
query_segments_from term_place [] terms = []
query_segments_from term_place (named ∷ query) terms = query_segments_at term_place named (segments_at terms named.term) ++ query_segments_from (suc term_place) query terms

-- the segments that a query names, place by place, by falling weight in each
abbrev pub query_segments : IndexData → List QueryTerm → List PlanSegment
query_segments index query = query_segments_from 0 query index.terms
