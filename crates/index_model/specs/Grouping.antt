-- The index of a flat list: its entries by term and impact (Lin and Trotman, "Anytime Ranking for Impact-Ordered Indexes",
-- ICTIR 2015).
use Rattle.std.specs.Prelude.{ℕ, ◌==◌, List, [], ◌∷◌, if◌then◌else◌}
use Rattle.std.specs.Str.{bytes_eq}
use Rattle.ranking_model.specs.declared.entry.Entry.{Entry}
use Rattle.index_model.specs.Index.{SegmentData, TermData, IndexData}

-- a document in front of segments: in the first where that has its impact, else in a segment of its own
abbrev pub with_posting : ℕ → ℕ → List SegmentData → List SegmentData
with_posting impact doc [] = record { impact = impact; docs = doc ∷ [] } ∷ []
with_posting impact doc (s ∷ segments) =
    if impact == s.impact then record { impact = s.impact; docs = doc ∷ s.docs } ∷ segments
    else record { impact = impact; docs = doc ∷ [] } ∷ s ∷ segments

-- an entry in front of terms: in the first where that is its term, else in a term of its own
abbrev pub with_entry : Entry (List ℕ) → List TermData → List TermData
with_entry e [] = record { term = e.term; segments = with_posting e.impact e.doc [] } ∷ []
with_entry e (t ∷ terms) =
    if bytes_eq e.term t.term then record { term = t.term; segments = with_posting e.impact e.doc t.segments } ∷ terms
    else record { term = e.term; segments = with_posting e.impact e.doc [] } ∷ t ∷ terms

-- the entries in front of terms
abbrev pub with_entries : List (Entry (List ℕ)) → List TermData → List TermData
with_entries [] terms = terms
with_entries (e ∷ flat) terms = with_entry e (with_entries flat terms)

-- the index with these names and this flat list
unfoldable pub index_with : List (List ℕ) → List (Entry (List ℕ)) → IndexData
index_with names flat = record { names = names; terms = with_entries flat [] }
