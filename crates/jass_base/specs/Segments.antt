-- Facts on the segments of a term.
use Rattle.std.specs.Prelude.{ℕ, ◌<◌, All, Contains}
use Rattle.jass_base.specs.declared.segment.Segment.{Segment}

-- the impact of a segment is above that of a later one
abbrev pub FallsTo : Segment → Segment → Type 0
FallsTo segment later = later.impact < segment.impact

-- no document stands in both segments
abbrev pub SharesNoDocument : Segment → Segment → Type 0
SharesNoDocument first second = (doc : ℕ) → Contains first.docs doc → ¬ Contains second.docs doc

-- each document of the segment is below d
abbrev pub HasDocumentsBelow : ℕ → Segment → Type 0
HasDocumentsBelow d segment = All (λ doc. doc < d) segment.docs
