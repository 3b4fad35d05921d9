-- How many postings an index, a term and a query have.
use Rattle.shared_lemmas.proofs.Common.{◌≡◌, ℕ, suc, ◌+◌, ◌*◌, List, [], ◌∷◌, length, refl, sym, ap, ap₂, ◌∙◌, sum_by, flat_map, length-map, length-append, sum_by-cons, flat_map-append}
use Rattle.session_engine.proofs.Below.{QueryTerm, PlanSegment, WeightedPosting, postings_of, SegmentData, TermData, IndexData, segment_entries, term_entries, numbered_from, numbered_flat, segments_at, query_segments_at, query_segments_from, query_segments, term_postings, index_postings}
use Rattle.session_engine.specs.Plans.{postings_at, postings_of_terms}

abbrev size : SegmentData → ℕ
size s = length s.docs

term_length : (n : ℕ) (segments : List SegmentData) → length (term_entries n segments) ≡ sum_by size segments
term_length n [] = refl
term_length n (s ∷ ss) = length-append (segment_entries n s) (term_entries n ss) ∙ ap₂ (λ x y. x + y) (length-map s.docs (λ (doc : ℕ). record { term = n; doc = doc; impact = s.impact })) (term_length n ss)
    ∙ sym (sum_by-cons size s ss)

flat_from : (n : ℕ) (terms : List TermData) → length (numbered_from n terms) ≡ sum_by term_postings terms
flat_from n [] = refl
flat_from n (t ∷ ts) = length-append (term_entries n t.segments) (numbered_from (suc n) ts) ∙ ap₂ (λ x y. x + y) (term_length n t.segments) (flat_from (suc n) ts) ∙ sym (sum_by-cons term_postings t ts)

pub flat_is_long : (index : IndexData) → length (numbered_flat index) ≡ index_postings index
flat_is_long index = flat_from 0 index.terms

plan_length_at : (term_place : ℕ) (named : QueryTerm) (segments : List SegmentData) → length (flat_map postings_of (query_segments_at term_place named segments)) ≡ sum_by size segments
plan_length_at term_place named [] = refl
plan_length_at term_place named (s ∷ ss) =
    length-append (postings_of (record { term_place = term_place; weight = s.impact * named.times; docs = s.docs })) (flat_map postings_of (query_segments_at term_place named ss))
    ∙ ap₂ (λ x y. x + y) (length-map s.docs (λ (doc : ℕ). record { term_place = term_place; doc = doc; weight = s.impact * named.times })) (plan_length_at term_place named ss)
    ∙ sym (sum_by-cons size s ss)

plan_length : (term_place : ℕ) (query : List QueryTerm) (terms : List TermData) → length (flat_map postings_of (query_segments_from term_place query terms)) ≡ postings_of_terms terms query
plan_length term_place [] terms = refl
plan_length term_place (named ∷ query) terms =
    let here : List PlanSegment = query_segments_at term_place named (segments_at terms named.term) in
    let later : List PlanSegment = query_segments_from (suc term_place) query terms in
    ap (λ (ps : List WeightedPosting). length ps) (flat_map-append postings_of here later)
    ∙ length-append (flat_map postings_of here) (flat_map postings_of later)
    ∙ ap₂ (λ x y. x + y) (plan_length_at term_place named (segments_at terms named.term)) (plan_length (suc term_place) query terms)
    ∙ sym (sum_by-cons (λ (n : QueryTerm). postings_at terms n.term) named query)

pub query_is_long : (index : IndexData) (query : List QueryTerm) → length (flat_map postings_of (query_segments index query)) ≡ postings_of_terms index.terms query
query_is_long index query = plan_length 0 query index.terms
