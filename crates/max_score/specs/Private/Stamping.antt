-- Impacts written at documents.
use Rattle.std.specs.Prelude.{ℕ, List, [], ◌∷◌, slice_set}
use Rattle.index_model.specs.Index.{SegmentData}

-- an impact written at each of some documents
abbrev pub stamped : ℕ → List ℕ → List ℕ → List ℕ
stamped impact [] impacts = impacts
stamped impact (doc ∷ docs) impacts = stamped impact docs (slice_set impacts doc impact)

-- those of some segments, one after the other
abbrev pub stamped_all : List SegmentData → List ℕ → List ℕ
stamped_all [] impacts = impacts
stamped_all (s ∷ segments) impacts = stamped_all segments (stamped s.impact s.docs impacts)
