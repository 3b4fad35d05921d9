-- The totals of an index, and how many of its segments are in each codec.
use Rattle.std.specs.Prelude.{ℕ, List, [], ◌∷◌, length, max}
use Rattle.std.specs.List.{flat_map}
use Rattle.jass_base.specs.declared.answer.Totals.{Totals}
use Rattle.index_model.specs.Index.{SegmentData, TermData, IndexData}
use Rattle.index_layout.specs.View.{index_postings}

-- the greatest impact of segments, 0 where there is none
abbrev pub greatest_in : List SegmentData → ℕ
greatest_in [] = 0
greatest_in (s ∷ segments) = max s.impact (greatest_in segments)

-- the greatest impact of an index
abbrev pub index_greatest : IndexData → ℕ
index_greatest index = greatest_in (flat_map (λ (t : TermData). t.segments) index.terms)

-- the totals of an index
abbrev pub totals_of : IndexData → Totals
totals_of index = record {
  docs = length index.names;
  terms = length index.terms;
  postings = index_postings index;
  greatest = index_greatest index;
}
