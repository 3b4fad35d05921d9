-- The text of an index by its chosen heads and payloads.
use Rattle.shared_lemmas.proofs.Common.{◌≡◌, ℕ, ◌+◌, List, [], ◌∷◌, ◌++◌, length, map, ap, sym, ◌∙◌, refl, max, sum_by, length-append, sum_by-cons, sum_by-append}
use Rattle.std.proofs.Common.{flat_map}
use Rattle.index_write.proofs.Below.{chosen_codec, SegmentData, TermData, IndexData, HeadData, TermHeads, heads_of, terms_heads, all_heads, greatest_of, front_bytes, segments_payloads, terms_payloads, greatest_in, chosen_codecs, chosen_view, term_postings}
use Rattle.index_layout.specs.View.{view_heads, view_payloads, file_bytes, index_text}
use Rattle.index_write.specs.Chosen.{chosen_head, chosen_heads, chosen_terms, chosen_payload, chosen_payloads, table_payloads}
use Rattle.index_write.specs.Private.Table.{table_of}

heads_chosen : (d : ℕ) (segments : List SegmentData) → heads_of d segments (map (λ (s : SegmentData). chosen_codec d s.docs) segments) ≡ chosen_heads d segments
heads_chosen d [] = refl
heads_chosen d (s ∷ segments) = ap (λ hs. chosen_head d s ∷ hs) (heads_chosen d segments)

pub terms_chosen : (d : ℕ) (terms : List TermData) → terms_heads d terms (chosen_codecs d terms) ≡ chosen_terms d terms
terms_chosen d [] = refl
terms_chosen d (t ∷ terms) =
    ap (λ (hs : List HeadData). (let first : TermHeads = record { term = t.term; heads = hs } in first) ∷ terms_heads d terms (chosen_codecs d terms)) (heads_chosen d t.segments)
    ∙ ap (λ ts. (let first : TermHeads = record { term = t.term; heads = chosen_heads d t.segments } in first) ∷ ts) (terms_chosen d terms)

payloads_chosen : (d : ℕ) (segments : List SegmentData) → segments_payloads d segments (map (λ (s : SegmentData). chosen_codec d s.docs) segments) ≡ chosen_payloads d segments
payloads_chosen d [] = refl
payloads_chosen d (s ∷ segments) = ap (λ xs. chosen_payload d s ++ xs) (payloads_chosen d segments)

all_payloads_chosen : (d : ℕ) (terms : List TermData) → terms_payloads d terms (chosen_codecs d terms) ≡ table_payloads d terms
all_payloads_chosen d [] = refl
all_payloads_chosen d (t ∷ terms) =
    ap (λ xs. xs ++ terms_payloads d terms (chosen_codecs d terms)) (payloads_chosen d t.segments) ∙ ap (λ xs. chosen_payloads d t.segments ++ xs) (all_payloads_chosen d terms)

pub text_in_parts : (index : IndexData) → index_text index ≡ front_bytes index.names (chosen_terms (length index.names) index.terms) ++ table_payloads (length index.names) index.terms
unfolding index_text file_bytes view_heads view_payloads
text_in_parts index =
    let d = length index.names in
    ap (λ heads. front_bytes index.names heads ++ terms_payloads d index.terms (chosen_codecs d index.terms)) (terms_chosen d index.terms)
    ∙ ap (λ xs. front_bytes index.names (chosen_terms d index.terms) ++ xs) (all_payloads_chosen d index.terms)

pub view_heads_chosen : (index : IndexData) → view_heads (chosen_view index) ≡ chosen_terms (length index.names) index.terms
unfolding view_heads
view_heads_chosen index = terms_chosen (length index.names) index.terms

pub table_is : (d : ℕ) (terms : List TermData) → all_heads (chosen_terms d terms) ≡ table_of d terms
table_is d [] = refl
table_is d (t ∷ terms) = ap (λ hs. chosen_heads d t.segments ++ hs) (table_is d terms)

abbrev pub size_of : HeadData → ℕ
size_of h = h.size

abbrev pub count_of : HeadData → ℕ
count_of h = h.count

abbrev pub docs_of : SegmentData → ℕ
docs_of s = length s.docs

sized : (d : ℕ) (segments : List SegmentData) → sum_by size_of (chosen_heads d segments) ≡ length (chosen_payloads d segments)
sized d [] = refl
sized d (s ∷ segments) =
    sum_by-cons size_of (chosen_head d s) (chosen_heads d segments) ∙ ap (λ n. length (chosen_payload d s) + n) (sized d segments)
    ∙ sym (length-append (chosen_payload d s) (chosen_payloads d segments))

pub all_sized : (d : ℕ) (terms : List TermData) → sum_by size_of (table_of d terms) ≡ length (table_payloads d terms)
all_sized d [] = refl
all_sized d (t ∷ terms) =
    sum_by-append size_of (chosen_heads d t.segments) (table_of d terms)
    ∙ ap (λ n. n + sum_by size_of (table_of d terms)) (sized d t.segments)
    ∙ ap (λ n. length (chosen_payloads d t.segments) + n) (all_sized d terms)
    ∙ sym (length-append (chosen_payloads d t.segments) (table_payloads d terms))

counted : (d : ℕ) (segments : List SegmentData) → sum_by count_of (chosen_heads d segments) ≡ sum_by docs_of segments
counted d [] = refl
counted d (s ∷ segments) =
    sum_by-cons count_of (chosen_head d s) (chosen_heads d segments) ∙ ap (λ n. length s.docs + n) (counted d segments) ∙ sym (sum_by-cons docs_of s segments)

pub all_counted : (d : ℕ) (terms : List TermData) → sum_by count_of (table_of d terms) ≡ sum_by term_postings terms
all_counted d [] = refl
all_counted d (t ∷ terms) =
    sum_by-append count_of (chosen_heads d t.segments) (table_of d terms)
    ∙ ap (λ n. n + sum_by count_of (table_of d terms)) (counted d t.segments)
    ∙ ap (λ n. term_postings t + n) (all_counted d terms)
    ∙ sym (sum_by-cons term_postings t terms)

greatest_heads : (d : ℕ) (segments : List SegmentData) (more : List HeadData) (rest : List SegmentData) → greatest_of more ≡ greatest_in rest → greatest_of (chosen_heads d segments ++ more) ≡ greatest_in (segments ++ rest)
greatest_heads d [] more rest same = same
greatest_heads d (s ∷ segments) more rest same = ap (max s.impact) (greatest_heads d segments more rest same)

pub greatest_chosen : (d : ℕ) (terms : List TermData) → greatest_of (table_of d terms) ≡ greatest_in (flat_map (λ (t : TermData). t.segments) terms)
greatest_chosen d [] = refl
greatest_chosen d (t ∷ terms) = greatest_heads d t.segments (table_of d terms) (flat_map (λ (t : TermData). t.segments) terms) (greatest_chosen d terms)
