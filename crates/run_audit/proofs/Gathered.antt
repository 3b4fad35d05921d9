-- The segments that are read for a query, and their postings.
use Rattle.shared_lemmas.proofs.Common.{◌≡◌, ℕ, suc, ◌+◌, ◌*◌, ◌<◌, ◌≤◌, List, [], ◌∷◌, ◌++◌, length, drop, get_or, refl, sym, ap, ap₂, ◌∙◌, arith, sum_by, flat_map, append_assoc, drop_more, length-map, length-append, sum_by-cons, sum_by-append, Result, Ok, Err, IsErr}
use Rattle.jass_base.specs.declared.query_term.QueryTerm.{QueryTerm}
use Rattle.ranking_model.specs.declared.plan_segment.PlanSegment.{PlanSegment}
use Rattle.ranking_model.specs.Plan.{postings_of}
use Rattle.index_model.specs.Flat.{numbered_flat, numbered_from, segment_entries, term_entries}
use Rattle.index_model.specs.Index.{IndexData, SegmentData, TermData}
use Rattle.index_model.specs.Querying.{query_segments_at, query_segments_from, segments_at}
use Rattle.index_layout.specs.View.{index_postings, term_postings}
use Rattle.run_audit.specs.Audits.{Counts}
use Rattle.run_audit.specs.Private.Reading.{plan_postings, segments_postings}

abbrev pub no_term : QueryTerm
no_term = record { term = 0; times = 0 }

abbrev size : SegmentData → ℕ
size s = length s.docs

abbrev plan_size : PlanSegment → ℕ
plan_size s = length s.docs

-- ---- a term more

pub terms_step : (i term_place : ℕ) (query : List QueryTerm) (terms : List TermData) (items new all : List PlanSegment) → i < length query
    → new ≡ items ++ query_segments_at term_place (get_or query i no_term) (segments_at terms (get_or query i no_term).term) → items ++ query_segments_from term_place (drop i query) terms ≡ all
    → new ++ query_segments_from (term_place + 1) (drop (i + 1) query) terms ≡ all
terms_step i term_place query terms items new all inside grown is =
    let named : QueryTerm = get_or query i no_term in
    let here : List PlanSegment = query_segments_at term_place named (segments_at terms named.term) in
    let one : suc term_place ≡ term_place + 1 = omega arith in
    let left : query_segments_from term_place (drop i query) terms ≡ here ++ query_segments_from (term_place + 1) (drop (i + 1) query) terms
    = ap (λ (ns : List QueryTerm). query_segments_from term_place ns terms) (drop_more query i no_term inside) ∙ (λ k. here ++ query_segments_from (one k) (drop (i + 1) query) terms) in
    ap (λ (hs : List PlanSegment). hs ++ query_segments_from (term_place + 1) (drop (i + 1) query) terms) grown
    ∙ append_assoc items here (query_segments_from (term_place + 1) (drop (i + 1) query) terms) ∙ ap (λ (hs : List PlanSegment). items ++ hs) (sym left) ∙ is

-- ---- how many postings

pub size_at : (term_place : ℕ) (named : QueryTerm) (segments : List SegmentData) → plan_postings (query_segments_at term_place named segments) ≡ segments_postings segments
size_at term_place named [] = refl
size_at term_place named (s ∷ ss) =
    sum_by-cons plan_size (record { term_place = term_place; weight = s.impact * named.times; docs = s.docs }) (query_segments_at term_place named ss)
    ∙ ap (λ n. length s.docs + n) (size_at term_place named ss) ∙ sym (sum_by-cons size s ss)

pub size_more : (items new more : List PlanSegment) → new ≡ items ++ more → plan_postings new ≡ plan_postings items + plan_postings more
size_more items new more is = ap plan_postings is ∙ sum_by-append plan_size items more

pub postings_long : (segments : List PlanSegment) → length (flat_map postings_of segments) ≡ plan_postings segments
postings_long [] = refl
postings_long (s ∷ ss) =
    length-append (postings_of s) (flat_map postings_of ss)
    ∙ ap₂ (λ m n. m + n) (length-map s.docs (λ (doc : ℕ). record { term_place = s.term_place; doc = doc; weight = s.weight })) (postings_long ss)
    ∙ sym (sum_by-cons plan_size s ss)

-- ---- how many entries an index has

term_length : (n : ℕ) (segments : List SegmentData) → length (term_entries n segments) ≡ sum_by size segments
term_length n [] = refl
term_length n (s ∷ ss) = length-append (segment_entries n s) (term_entries n ss) ∙ ap₂ (λ x y. x + y) (length-map s.docs (λ (doc : ℕ). record { term = n; doc = doc; impact = s.impact })) (term_length n ss)
    ∙ sym (sum_by-cons size s ss)

flat_from : (n : ℕ) (terms : List TermData) → length (numbered_from n terms) ≡ sum_by term_postings terms
flat_from n [] = refl
flat_from n (t ∷ ts) = length-append (term_entries n t.segments) (numbered_from (suc n) ts) ∙ ap₂ (λ x y. x + y) (term_length n t.segments) (flat_from (suc n) ts) ∙ sym (sum_by-cons term_postings t ts)

pub flat_is_long : (index : IndexData) → length (numbered_flat index) ≡ index_postings index
flat_is_long index = flat_from 0 index.terms

-- ---- after a failure

pub stopped : {T E : Type 0} (old new count : ℕ) (result : Result T E) → IsErr result → old ≤ new → new ≤ old + count → Counts old new count result
stopped old new count (Ok x) is later few = cc
stopped old new count (Err e) is later few = (later, few)
