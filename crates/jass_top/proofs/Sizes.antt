-- An index has as many postings as its collection, and as its flat list.
use Rattle.shared_lemmas.proofs.Common.{◌≡◌, ℕ, List, [], ◌∷◌, length, map, refl, sym, ◌∙◌, arith, sum_by, flat_map, nat_cmp, slice_cmp, length-map, length-append, sum_by-cons}
use Rattle.jass_top.proofs.Below.{Collection, ListData, CollectionData, list_data, collection_data, Posting, PostingsList, Rule, Bits, range_of, impact_of, Entry, entry_cmp, posting_count, SegmentData, TermData, IndexData, flat_of, flat_of_terms, segment_entries, term_entries, index_postings}
use Rattle.jass_top.proofs.Below.{term_postings, lengths_of, total_of, weight_in, weights_of, entries_in, index_of, length_sorted}

joined_lists : (f : List ℕ → List Posting → List (Entry (List ℕ))) (lists : List PostingsList) → ((term : List ℕ) (postings : List Posting) → length (f term postings) ≡ length postings)
    → length (flat_map (λ (l : ListData). f l.term l.postings) (map list_data lists)) ≡ sum_by (λ (l : PostingsList). length l.postings) lists
joined_lists f [] is = refl
joined_lists f (l ∷ ls) is =
    let front = length-append (f l.term l.postings) (flat_map (λ (l : ListData). f l.term l.postings) (map list_data ls)) in
    let whole = sum_by-cons (λ (l : PostingsList). length l.postings) l ls in
    omega (arith, front, whole, joined_lists f ls is, is l.term l.postings)

pub index_size : (collection : Collection) (rule : Rule) (bits : Bits) → length (index_of (collection_data collection) rule bits) ≡ posting_count collection.lists
index_size collection rule bits =
    let c : CollectionData = collection_data collection in let lengths : List ℕ = lengths_of c.docs in
    let entries : List ℕ → List Posting → List (Entry (List ℕ)) = entries_in rule lengths (total_of lengths) bits (range_of (weights_of c rule)) in
    length_sorted (entry_cmp (slice_cmp nat_cmp)) (flat_map (λ (l : ListData). entries l.term l.postings) c.lists) ∙ joined_lists entries collection.lists
    (λ term postings. length-map postings (λ (p : Posting). record { term = term; doc = p.doc; impact = impact_of bits (range_of (weights_of c rule)) (weight_in rule lengths (total_of lengths) (length postings) p) }))

-- an index has as many postings as its flat list
segments_size : (term : List ℕ) (segments : List SegmentData) → length (term_entries term segments) ≡ sum_by (λ (s : SegmentData). length s.docs) segments
segments_size term [] = refl
segments_size term (s ∷ segments) =
    let front = length-append (segment_entries term s) (term_entries term segments) in
    let docs = length-map s.docs (λ (doc : ℕ). (let e : Entry (List ℕ) = record { term = term; doc = doc; impact = s.impact } in e)) in
    let whole = sum_by-cons (λ (s : SegmentData). length s.docs) s segments in
    omega (arith, front, docs, whole, segments_size term segments)

terms_size : (terms : List TermData) → length (flat_of_terms terms) ≡ sum_by term_postings terms
terms_size [] = refl
terms_size (t ∷ terms) =
    let front = length-append (term_entries t.term t.segments) (flat_of_terms terms) in
    let whole = sum_by-cons term_postings t terms in
    omega (arith, front, whole, segments_size t.term t.segments, terms_size terms)

pub flat_size : (index : IndexData) → index_postings index ≡ length (flat_of index)
flat_size index = sym (terms_size index.terms)
