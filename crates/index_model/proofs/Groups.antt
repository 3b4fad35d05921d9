-- The entries of an index, put together again.
use Rattle.shared_lemmas.proofs.Common.{◌≡◌, ℕ, ◌<◌, ◌≤◌, false, List, [], ◌∷◌, ◌++◌, length, refl, ap, ◌∙◌, arith, append-nil, ⊤, AllByRecursion, recursion_from_All}
use Rattle.std.specs.Str.{bytes_eq}
use Rattle.jass_base.proofs.ByteOrder.{bytes_apart}
use Rattle.shared_lemmas.proofs.Numbers.{number_itself, numbers_apart}
use Rattle.shared_lemmas.proofs.Texts.{bytes_itself}
use Rattle.shared_lemmas.proofs.Lists.{all_weaker}
use Rattle.shared_lemmas.proofs.Pairs.{Pairs, pairs_by_recursion}
use Rattle.ranking_model.specs.declared.entry.Entry.{Entry}
use Rattle.index_model.specs.Index.{SegmentData, TermData, IndexData, IsSegment, IsTerm, IsWellFormed, FallsTo, RisesTo}
use Rattle.index_model.specs.Flat.{doc_entries, segment_entries, term_entries, flat_of_terms, flat_of}
use Rattle.index_model.specs.Grouping.{with_posting, with_entry, with_entries, index_with}

pub entries_behind : (xs ys : List (Entry (List ℕ))) (terms : List TermData) → with_entries (xs ++ ys) terms ≡ with_entries xs (with_entries ys terms)
entries_behind [] ys terms = refl
entries_behind (x ∷ xs) ys terms = ap (with_entry x) (entries_behind xs ys terms)

-- the term isn't that of the first, and the impact isn't
abbrev pub IsOtherTerm : List ℕ → List TermData → Type 0
IsOtherTerm term [] = ⊤
IsOtherTerm term (t ∷ terms) = bytes_eq term t.term ≡ false

abbrev pub IsOtherImpact : ℕ → List SegmentData → Type 0
IsOtherImpact impact [] = ⊤
IsOtherImpact impact (s ∷ segments) = s.impact < impact

pub new_posting : (impact doc : ℕ) (segments : List SegmentData) → IsOtherImpact impact segments → with_posting impact doc segments ≡ record { impact = impact; docs = doc ∷ [] } ∷ segments
new_posting impact doc [] other = refl
new_posting impact doc (s ∷ segments) other = rw (numbers_apart impact s.impact other) refl

-- a segment in front of others of its term
segment_there : (term : List ℕ) (impact d : ℕ) (docs : List ℕ) (segments : List SegmentData) (terms : List TermData) → IsOtherImpact impact segments
    → with_entries (doc_entries term impact (d ∷ docs)) (record { term = term; segments = segments } ∷ terms) ≡ record { term = term; segments = record { impact = impact; docs = d ∷ docs } ∷ segments } ∷ terms
segment_there term impact d [] segments terms other =
    rw (bytes_itself term) (ap (λ (ss : List SegmentData). (let t : List TermData = record { term = term; segments = ss } ∷ terms in t)) (new_posting impact d segments other))
segment_there term impact d (e ∷ docs) segments terms other =
    ap (with_entry (record { term = term; doc = d; impact = impact })) (segment_there term impact e docs segments terms other)
    ∙ rw (bytes_itself term, number_itself impact) refl

-- a segment in front of other terms
segment_first : (term : List ℕ) (impact d : ℕ) (docs : List ℕ) (terms : List TermData) → IsOtherTerm term terms
    → with_entries (doc_entries term impact (d ∷ docs)) terms ≡ record { term = term; segments = record { impact = impact; docs = d ∷ docs } ∷ [] } ∷ terms
segment_first term impact d [] [] other = refl
segment_first term impact d [] (t ∷ terms) other = rw other refl
segment_first term impact d (e ∷ docs) terms other =
    ap (with_entry (record { term = term; doc = d; impact = impact })) (segment_first term impact e docs terms other)
    ∙ rw (bytes_itself term, number_itself impact) refl

abbrev pub HasSome : SegmentData → Type 0
HasSome s = 0 < length s.docs

segments_there : (term : List ℕ) (s : SegmentData) (segments : List SegmentData) (terms : List TermData) → IsOtherTerm term terms → AllByRecursion HasSome (s ∷ segments) → Pairs FallsTo (s ∷ segments)
    → with_entries (term_entries term (s ∷ segments)) terms ≡ record { term = term; segments = s ∷ segments } ∷ terms
segments_there term s [] terms other some falling = with_docs s.docs some.0
  where
    with_docs : (docs : List ℕ) → 0 < length docs → with_entries (doc_entries term s.impact docs ++ []) terms ≡ record { term = term; segments = record { impact = s.impact; docs = docs } ∷ [] } ∷ terms
    with_docs [] none = absurd (omega (arith, none))
    with_docs (d ∷ docs) some = ap (λ es. with_entries es terms) (append-nil (doc_entries term s.impact (d ∷ docs))) ∙ segment_first term s.impact d docs terms other
segments_there term s (next ∷ segments) terms other some falling =
    entries_behind (segment_entries term s) (term_entries term (next ∷ segments)) terms
    ∙ ap (with_entries (segment_entries term s)) (segments_there term next segments terms other some.1 falling.1)
    ∙ with_docs s.docs some.0
  where
    with_docs : (docs : List ℕ) → 0 < length docs → with_entries (doc_entries term s.impact docs) (record { term = term; segments = next ∷ segments } ∷ terms)
        ≡ record { term = term; segments = record { impact = s.impact; docs = docs } ∷ next ∷ segments } ∷ terms
    with_docs [] none = absurd (omega (arith, none))
    with_docs (d ∷ docs) some = segment_there term s.impact d docs (next ∷ segments) terms falling.0.0

-- a term has segments, by falling impact, and each of them documents
abbrev pub IsFull : TermData → Type 0
IsFull t = (1 ≤ length t.segments) × AllByRecursion HasSome t.segments × Pairs FallsTo t.segments

pub terms_there : (terms : List TermData) → AllByRecursion IsFull terms → Pairs RisesTo terms → with_entries (flat_of_terms terms) [] ≡ terms
terms_there [] are rising = refl
terms_there (t ∷ terms) are rising =
    entries_behind (term_entries t.term t.segments) (flat_of_terms terms) []
    ∙ ap (with_entries (term_entries t.term t.segments)) (terms_there terms are.1 rising.1)
    ∙ with_segments t.segments are.0.0 are.0.1 are.0.2
  where
    first_apart : (rest : List TermData) → AllByRecursion (RisesTo t) rest → IsOtherTerm t.term rest
    first_apart [] rises = tt
    first_apart (u ∷ rest) rises = bytes_apart t.term u.term rises.0

    with_segments : (segments : List SegmentData) → 1 ≤ length segments → AllByRecursion HasSome segments → Pairs FallsTo segments
        → with_entries (term_entries t.term segments) terms ≡ record { term = t.term; segments = segments } ∷ terms
    with_segments [] none some falling = absurd (omega (arith, none))
    with_segments (s ∷ segments) one some falling = segments_there t.term s segments terms (first_apart terms rising.0) some falling

term_full : (d : ℕ) (t : TermData) → IsTerm d t → IsFull t
term_full d t is = (is.some, all_weaker (IsSegment d) HasSome (λ s k. k.docs.some) t.segments (recursion_from_All (IsSegment d) t.segments is.segments), pairs_by_recursion FallsTo t.segments is.falling)

pub index_again : (index : IndexData) → IsWellFormed index → index_with index.names (flat_of index) ≡ index
unfolding index_with
index_again index is = ap (λ (terms : List TermData). (let i : IndexData = record { names = index.names; terms = terms } in i))
    (terms_there index.terms (all_weaker (IsTerm (length index.names)) IsFull (term_full (length index.names)) index.terms (recursion_from_All (IsTerm (length index.names)) index.terms is.terms)) (pairs_by_recursion RisesTo index.terms is.rising))
