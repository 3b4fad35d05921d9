-- The flat list of terms in memory: the terms in their order, the segments of each in theirs, and the documents of each
-- segment (Lin and Trotman, "Anytime Ranking for Impact-Ordered Indexes", ICTIR 2015).
use Rattle.std.specs.Prelude.{ℕ, List, map}
use Rattle.std.specs.List.{flat_map}
use Rattle.jass_base.specs.declared.segment.Segment.{Segment}
use Rattle.jass_base.specs.declared.term_segments.TermSegments.{TermSegments}
use Rattle.ranking_model.specs.declared.entry.Entry.{Entry}

-- an entry for each of some documents, under a term's bytes or number, with one impact
abbrev pub doc_entries : {T : Type 0} → T → ℕ → List ℕ → List (Entry T)
doc_entries term impact docs = map (λ (doc : ℕ). record { term = term; doc = doc; impact = impact }) docs

-- the entries of a segment
abbrev pub segment_entries : {T : Type 0} → T → Segment → List (Entry T)
segment_entries term segment = doc_entries term segment.impact segment.docs

-- the entries of a term's segments
abbrev pub term_entries : {T : Type 0} → T → List Segment → List (Entry T)
term_entries term segments = flat_map (segment_entries term) segments

-- the flat list of terms
abbrev pub flat_of_terms : List TermSegments → List (Entry (List ℕ))
flat_of_terms terms = flat_map (λ (t : TermSegments). term_entries t.term t.segments) terms
