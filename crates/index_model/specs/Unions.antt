-- The union of the parts of a collection, as one index (Lin and Trotman, "Anytime Ranking for Impact-Ordered Indexes", ICTIR 2015,
-- for impact-ordered indexes; the form of the union is this project's).
use Rattle.std.specs.Prelude.{ℕ, ◌+◌, List, [], ◌∷◌, ◌++◌, length, map}
use Rattle.std.specs.List.{flat_map}
use Rattle.std.specs.Ordering.{nat_cmp}
use Rattle.std.specs.Cmp.Lexicographic.{slice_cmp}
use Rattle.ranking_model.specs.declared.entry.Entry.{Entry}
use Rattle.ranking_model.specs.Flat.{entry_cmp}
use Rattle.ranking_model.specs.Order.{sorted}
use Rattle.index_model.specs.Index.{SegmentData, TermData, IndexData}
use Rattle.index_model.specs.Flat.{flat_of}
use Rattle.index_model.specs.Grouping.{index_with}

-- a segment of a part, its documents raised by the number of documents of the parts before it
abbrev pub raised_segment : ℕ → SegmentData → SegmentData
raised_segment base s = record { impact = s.impact; docs = map (λ d. base + d) s.docs }

-- a term of a part, its documents raised
abbrev pub raised_term : ℕ → TermData → TermData
raised_term base t = record { term = t.term; segments = map (raised_segment base) t.segments }

-- entries of a part, their documents raised
abbrev pub raised_entries : ℕ → List (Entry (List ℕ)) → List (Entry (List ℕ))
raised_entries base entries = map (λ (e : Entry (List ℕ)). record { term = e.term; doc = base + e.doc; impact = e.impact }) entries

-- the names of the parts, one part after the other
abbrev pub union_names : List IndexData → List (List ℕ)
union_names parts = flat_map (λ (p : IndexData). p.names) parts

-- all entries of the parts, part after part, raised; the first part has so many documents before it
abbrev pub union_entries : ℕ → List IndexData → List (Entry (List ℕ))
union_entries base [] = []
union_entries base (p ∷ parts) = raised_entries base (flat_of p) ++ union_entries (base + length p.names) parts

-- the union of parts: their names one part after the other, and all their entries in the order of an index
unfoldable pub union_of : List IndexData → IndexData
union_of parts = index_with (union_names parts) (sorted (entry_cmp (slice_cmp nat_cmp)) (union_entries 0 parts))
