-- An index in memory as plain data.
use Rattle.std.specs.Prelude.{map}
use Rattle.jass_base.specs.declared.segment.Segment.{Segment}
use Rattle.jass_base.specs.declared.term_segments.TermSegments.{TermSegments}
use Rattle.jass_base.specs.declared.impact_index.ImpactIndex.{ImpactIndex}
use Rattle.index_model.specs.Index.{SegmentData, TermData, IndexData}

abbrev pub segment_data : Segment → SegmentData
segment_data s = record { impact = s.impact; docs = s.docs }

abbrev pub term_data : TermSegments → TermData
term_data t = record { term = t.term; segments = map segment_data t.segments }

abbrev pub index_data : ImpactIndex → IndexData
index_data index = record { names = index.names; terms = map term_data index.terms }
