-- The greatest impact, in parts.
use Rattle.std.proofs.Common.{◌≡◌, List, [], ◌∷◌, ◌++◌, map, ap, sym, ◌∙◌, refl, arith, max, flat_map}
use Rattle.jass_base.specs.declared.segment.Segment.{Segment}
use Rattle.jass_base.specs.declared.term_segments.TermSegments.{TermSegments}
use Rattle.jass_base.specs.Terms as memory
use Rattle.index_model.specs.Index.{SegmentData, TermData}
use Rattle.index_model.specs.Views.{segment_data, term_data}
use Rattle.shared_lemmas.proofs.Numbers.{max_joins}
use Rattle.index_layout.specs.Heads.{HeadData, greatest_of}
use Rattle.index_layout.specs.Totals.{greatest_in}

pub greatest_joins : (heads more : List HeadData) → greatest_of (heads ++ more) ≡ max (greatest_of heads) (greatest_of more)
greatest_joins [] more = omega arith
greatest_joins (h ∷ heads) more = ap (max h.impact) (greatest_joins heads more) ∙ sym (max_joins h.impact (greatest_of heads) (greatest_of more))

greatest_more : (segments : List Segment) (rest : List SegmentData) → greatest_in (map segment_data segments ++ rest) ≡ max (memory.greatest_of segments) (greatest_in rest)
greatest_more [] rest = omega arith
greatest_more (s ∷ segments) rest = ap (max s.impact) (greatest_more segments rest) ∙ sym (max_joins s.impact (memory.greatest_of segments) (greatest_in rest))

-- of terms in memory
pub greatest_kept : (terms : List TermSegments) → greatest_in (flat_map (λ (t : TermData). t.segments) (map term_data terms)) ≡ memory.greatest_impact terms
greatest_kept [] = refl
greatest_kept (t ∷ terms) =
    greatest_more t.segments (flat_map (λ (t : TermData). t.segments) (map term_data terms)) ∙ ap (max (memory.greatest_of t.segments)) (greatest_kept terms)
