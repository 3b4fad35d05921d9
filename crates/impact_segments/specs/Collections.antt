-- The impact-ordered index of a collection as one formula: an entry for each posting, with the impact of its weight in the
-- range of all weights of the collection (Lin and Trotman, "Anytime Ranking for Impact-Ordered Indexes", ICTIR 2015; Anh, de
-- Kretser and Moffat, SIGIR 2001, for the range over the whole collection).
use Rattle.std.specs.Prelude.{ℕ, max, List, length, map, sum, slice_index}
use Rattle.std.specs.List.{flat_map}
use Rattle.std.specs.Ordering.{nat_cmp}
use Rattle.std.specs.Cmp.Lexicographic.{slice_cmp}
use Rattle.jass_base.specs.declared.posting.Posting.{Posting}
use Rattle.jass_base.specs.Ciff.{ListData, DocData, CollectionData}
use Rattle.weights.specs.declared.weighting.Rule.{Rule}
use Rattle.weights.specs.declared.quantizing.Bits.{Bits}
use Rattle.weights.specs.declared.quantizing.Range.{Range}
use Rattle.weights.specs.Weighting.{weight_of}
use Rattle.weights.specs.Quantizing.{range_of, impact_of}
use Rattle.index_model.specs.Grouping.{index_with}
use Rattle.index_model.specs.Index.{IndexData}
use Rattle.ranking_model.specs.declared.entry.Entry.{Entry}
use Rattle.ranking_model.specs.Order.{sorted}
use Rattle.ranking_model.specs.Flat.{entry_cmp}

-- the documents' lengths, by number
abbrev pub lengths_of : List DocData → List ℕ
lengths_of docs = map (λ (d : DocData). d.length) docs

-- the terms of documents of these lengths in all, and 1 where there are none
abbrev pub total_of : List ℕ → ℕ
total_of lengths = max 1 (sum lengths)

-- the weight of a posting of a list of so many, where the documents have these lengths and so many terms in all
abbrev pub weight_in : Rule → List ℕ → ℕ → ℕ → Posting → ℕ
weight_in rule lengths total count p = weight_of rule (length lengths) total count p.tf (slice_index lengths p.doc)

-- the weights of a list's postings
abbrev pub weights_in : Rule → List ℕ → ℕ → List Posting → List ℕ
weights_in rule lengths total postings = map (weight_in rule lengths total (length postings)) postings

-- the weights of all postings of a collection
abbrev pub weights_of : CollectionData → Rule → List ℕ
weights_of c rule = flat_map (λ (l : ListData). weights_in rule (lengths_of c.docs) (total_of (lengths_of c.docs)) l.postings) c.lists

-- the entries of a term's postings, with impacts from a range
abbrev pub entries_in : Rule → List ℕ → ℕ → Bits → Range → List ℕ → List Posting → List (Entry (List ℕ))
entries_in rule lengths total bits range term postings =
    map (λ (p : Posting). record { term = term; doc = p.doc; impact = impact_of bits range (weight_in rule lengths total (length postings) p) }) postings

-- the flat list of a collection's index: one entry for each posting, by rising term bytes, falling impact, rising document
abbrev pub index_of : CollectionData → Rule → Bits → List (Entry (List ℕ))
index_of c rule bits = sorted (entry_cmp (slice_cmp nat_cmp))
    (flat_map (λ (l : ListData). entries_in rule (lengths_of c.docs) (total_of (lengths_of c.docs)) bits (range_of (weights_of c rule)) l.term l.postings) c.lists)

-- the index of a collection: its documents' names, and the flat list of its weighed postings
abbrev pub collection_index : Rule → Bits → CollectionData → IndexData
collection_index rule bits c = index_with (map (λ (d : DocData). d.name) c.docs) (index_of c rule bits)
