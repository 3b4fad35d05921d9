-- Facts on the terms of an impact index.
use Rattle.std.specs.Prelude.{ℕ, List, [], ◌∷◌, All, IsTrue, max}
use Rattle.std.specs.Ordering.{is_lt, nat_cmp}
use Rattle.std.specs.Cmp.Lexicographic.{slice_cmp}
use Rattle.jass_base.specs.declared.segment.Segment.{Segment}
use Rattle.jass_base.specs.declared.term_segments.TermSegments.{TermSegments}
use Rattle.jass_base.specs.Segments.{HasDocumentsBelow}

-- the bytes are below those of a later term
abbrev pub BytesRise : List ℕ → List ℕ → Type 0
BytesRise bytes later = IsTrue (is_lt (slice_cmp nat_cmp bytes later))

-- the bytes of the term are below those of a later one
abbrev pub RisesTo : TermSegments → TermSegments → Type 0
RisesTo term later = BytesRise term.term later.term

-- each document of the term is below d
abbrev pub HasTermBelow : ℕ → TermSegments → Type 0
HasTermBelow d term = All (HasDocumentsBelow d) term.segments

-- the greatest impact of a term's segments, 0 where there is none
abbrev pub greatest_of : List Segment → ℕ
greatest_of [] = 0
greatest_of (segment ∷ later) = max segment.impact (greatest_of later)

-- the greatest impact of the terms, 0 where there is none
abbrev pub greatest_impact : List TermSegments → ℕ
greatest_impact [] = 0
greatest_impact (term ∷ later) = max (greatest_of term.segments) (greatest_impact later)
