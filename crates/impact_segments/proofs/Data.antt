-- A collection and an index in memory, as the plain data that they are.
use Rattle.shared_lemmas.proofs.Common.{◌≡◌, ℕ, List, [], ◌∷◌, ◌++◌, map, refl, sym, ap, ap₂, ◌∙◌, slice_cmp, map-map}
use Rattle.std.proofs.Common.{flat_map, nat_cmp}
use Rattle.impact_segments.proofs.Below.{ListData, DocData, list_data, doc_data, collection_data, Collection, Posting, PostingsList, Segment, TermSegments, Rule, Bits, range_of, Entry, sorted, entry_cmp, segment_data, term_data}
use Rattle.index_model.specs.Flat as model
use Rattle.impact_segments.specs.Collections.{lengths_of, total_of, weights_in, entries_in, index_of}
use Rattle.impact_segments.specs.Private.Held.{term_entries, flat_of_terms}
use Rattle.impact_segments.specs.Private.Weighed.{lengths_in, list_weights, list_entries}

-- ---- the index

segments_same : {T : Type 0} (t : T) (segments : List Segment) → term_entries t segments ≡ model.term_entries t (map segment_data segments)
segments_same t [] = refl
segments_same {T} t (s ∷ ss) = ap (λ (l : List (Entry T)). model.segment_entries t (segment_data s) ++ l) (segments_same t ss)

pub flat_same : (terms : List TermSegments) → flat_of_terms terms ≡ model.flat_of_terms (map term_data terms)
flat_same [] = refl
flat_same (t ∷ ts) = ap₂ (λ (x y : List (Entry (List ℕ))). x ++ y) (segments_same t.term t.segments) (flat_same ts)

-- ---- the collection

through : {B : Type 0} (F : List ℕ → List Posting → List B) (lists : List PostingsList) → flat_map (λ (l : PostingsList). F l.term l.postings) lists ≡ flat_map (λ (l : ListData). F l.term l.postings) (map list_data lists)
through F [] = refl
through {B} F (l ∷ ls) = ap (λ (x : List B). F l.term l.postings ++ x) (through F ls)

pub index_same : (c : Collection) (rule : Rule) (bits : Bits)
    → sorted (entry_cmp (slice_cmp nat_cmp)) (flat_map (list_entries rule c.docs bits (range_of (flat_map (list_weights rule c.docs) c.lists))) c.lists) ≡ index_of (collection_data c) rule bits
index_same c rule bits =
    let E : List ℕ → List ℕ → List (Entry (List ℕ)) = λ (lengths weights : List ℕ). flat_map (λ (l : PostingsList). entries_in rule lengths (total_of lengths) bits (range_of weights) l.term l.postings) c.lists in
    let lengths : lengths_in c.docs ≡ lengths_of (map doc_data c.docs) = sym (map-map (λ (d : DocData). d.length) doc_data c.docs) in
    let weights = through (λ (term : List ℕ) (ps : List Posting). weights_in rule (lengths_of (map doc_data c.docs)) (total_of (lengths_of (map doc_data c.docs))) ps) c.lists in
    ap (sorted (entry_cmp (slice_cmp nat_cmp)))
    (ap (λ (x : List ℕ). E x (flat_map (λ (l : PostingsList). weights_in rule x (total_of x) l.postings) c.lists)) lengths
    ∙ ap (E (lengths_of (map doc_data c.docs))) weights
    ∙ through (entries_in rule (lengths_of (map doc_data c.docs)) (total_of (lengths_of (map doc_data c.docs))) bits
    (range_of (flat_map (λ (l : ListData). weights_in rule (lengths_of (map doc_data c.docs)) (total_of (lengths_of (map doc_data c.docs))) l.postings) (map list_data c.lists)))) c.lists)
