-- The postings of one term as pairs of a document and its impact.
use Rattle.std.specs.Prelude.{ℕ, List, map}
use Rattle.std.specs.List.{flat_map}
use Rattle.std.specs.declared.cmp.Ordering.{Ordering}
use Rattle.std.specs.Ordering.{nat_cmp, ordering_then}
use Rattle.jass_base.specs.declared.segment.Segment.{Segment}
use Rattle.impact_segments.specs.declared.doc_impact.DocImpact.{DocImpact}

-- falling impacts, then rising documents
abbrev pub pair_cmp : DocImpact → DocImpact → Ordering
pair_cmp a b = ordering_then (nat_cmp b.impact a.impact) (nat_cmp a.doc b.doc)

-- a document with this impact
abbrev pub with_impact : ℕ → ℕ → DocImpact
with_impact impact doc = record { doc = doc; impact = impact }

-- the pairs that segments hold
abbrev pub pairs_of : List Segment → List DocImpact
pairs_of segments = flat_map (λ (s : Segment). map (with_impact s.impact) s.docs) segments

-- the documents of pairs
abbrev pub pair_docs : List DocImpact → List ℕ
pair_docs pairs = map (λ (p : DocImpact). p.doc) pairs
