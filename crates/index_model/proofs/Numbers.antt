-- A term's number is its place: the flat list by number.
use Rattle.shared_lemmas.proofs.Common.{◌≡◌, ◌≢◌, ℕ, suc, ◌+◌, ◌<◌, ◌≤◌, List, [], ◌∷◌, ◌++◌, map, filter, not, length, get_or, true, false, refl, sym, ap, ap₂, ◌∙◌, subst, arith, append_assoc, add-one, AllPairs, bytes_eq, AllByRecursion, is_lt, nat_cmp, slice_cmp, bytes_eq-Decides, get_or_at}
use Rattle.shared_lemmas.proofs.Common.{map-append, length_push, position_or_len_is, map-map, false_from_ne_true}
use Rattle.std.proofs.Common.{length-append}
use Rattle.shared_lemmas.proofs.Pairs.{Pairs, pairs_by_recursion, pairs_by_places, pairs_weaker, pairs_map}
use Rattle.shared_lemmas.proofs.Lists.{all_append}
use Rattle.ranking_model.specs.declared.entry.Entry.{Entry}
use Rattle.ranking_model.specs.Flat.{terms_of, number_of, numbered}
use Rattle.index_model.specs.Index.{SegmentData, TermData, RisesTo}
use Rattle.index_model.specs.Flat.{doc_entries, segment_entries, term_entries, flat_of_terms, numbered_from}
use Rattle.shared_lemmas.proofs.Texts.{not_itself}

abbrev pub texts_of : List TermData → List (List ℕ)
texts_of terms = map (λ (t : TermData). t.term) terms

-- terms that rise differ
rise_apart : (s t : List ℕ) → is_lt (slice_cmp nat_cmp s t) ≡ true → s ≢ t
rise_apart s t l e = not_itself s (subst (λ (x : List ℕ). is_lt (slice_cmp nat_cmp s x) ≡ true) (sym e) l)

pub apart : (terms : List TermData) → AllPairs RisesTo terms → Pairs (λ (s t : List ℕ). s ≢ t) (texts_of terms)
apart terms rising = pairs_map (λ (s t : List ℕ). s ≢ t) (λ (t : TermData). t.term) terms
    (pairs_weaker RisesTo (λ (s t : TermData). s.term ≢ t.term) (λ s t h. rise_apart s.term t.term h) terms (pairs_by_recursion RisesTo terms rising))

-- ---- the terms of a flat list

-- what a term's entries add in front of other terms
kept : (t : List ℕ) (ts : List (List ℕ)) → AllByRecursion (λ (s : List ℕ). t ≢ s) ts → filter (λ term. not (bytes_eq term t)) ts ≡ ts
kept t [] h = refl
kept t (s ∷ ts) h =
    let differ : bytes_eq s t ≡ false = false_from_ne_true (bytes_eq s t) (λ e. h.0 (sym ((bytes_eq-Decides s t).0 e))) in
    rw differ (ap (λ (l : List (List ℕ)). s ∷ l) (kept t ts h.1))

joined : (t : List ℕ) (e : Entry (List ℕ)) (es rest : List (Entry (List ℕ))) → AllByRecursion (λ (e : Entry (List ℕ)). e.term ≡ t) (e ∷ es) → AllByRecursion (λ (s : List ℕ). t ≢ s) (terms_of rest)
    → terms_of ((e ∷ es) ++ rest) ≡ t ∷ terms_of rest
joined t e [] rest same h = ap₂ (λ (x : List ℕ) (l : List (List ℕ)). x ∷ l) same.0 (ap (λ (x : List ℕ). filter (λ term. not (bytes_eq term x)) (terms_of rest)) same.0 ∙ kept t (terms_of rest) h)
joined t e (f ∷ fs) rest same h =
    let more : terms_of ((f ∷ fs) ++ rest) ≡ t ∷ terms_of rest = joined t f fs rest same.1 h in
    let own : bytes_eq t t ≡ true = (bytes_eq-Decides t t).1 refl in
    let dropped : filter (λ term. not (bytes_eq term t)) (t ∷ terms_of rest) ≡ terms_of rest = rw own (kept t (terms_of rest) h) in
    ap₂ (λ (x : List ℕ) (l : List (List ℕ)). x ∷ l) same.0
    (ap₂ (λ (x : List ℕ) (l : List (List ℕ)). filter (λ term. not (bytes_eq term x)) l) same.0 more ∙ dropped)

-- the entries of a term are its own
own_docs : {T : Type 0} (t : T) (impact : ℕ) (docs : List ℕ) → AllByRecursion (λ (e : Entry T). e.term ≡ t) (doc_entries t impact docs)
own_docs t impact [] = tt
own_docs t impact (d ∷ docs) = (refl, own_docs t impact docs)

pub own_entries : {T : Type 0} (t : T) (segments : List SegmentData) → AllByRecursion (λ (e : Entry T). e.term ≡ t) (term_entries t segments)
own_entries t [] = tt
own_entries {T} t (s ∷ ss) = all_append (λ (e : Entry T). e.term ≡ t) (segment_entries t s) (term_entries t ss) (own_docs t s.impact s.docs) (own_entries t ss)

-- each term has a segment, and each segment a document
abbrev pub HasDocuments : TermData → Type 0
HasDocuments t = (1 ≤ length t.segments) × AllByRecursion (λ (s : SegmentData). 1 ≤ length s.docs) t.segments

texts : (terms : List TermData) → AllByRecursion HasDocuments terms → Pairs (λ (s t : List ℕ). s ≢ t) (texts_of terms) → terms_of (flat_of_terms terms) ≡ texts_of terms
texts [] have h = refl
texts (t ∷ ts) have h = by (texts ts have.1 h.1) (term_entries t.term t.segments) (own_entries t.term t.segments) (some t.segments have.0.0 have.0.1) where
  some_docs : (s : SegmentData) (more : List (Entry (List ℕ))) → 1 ≤ length s.docs → 1 ≤ length (segment_entries t.term s ++ more)
  some_docs s more has = first s.docs has where
    first : (docs : List ℕ) → 1 ≤ length docs → 1 ≤ length (doc_entries t.term s.impact docs ++ more)
    first [] k = absurd (omega arith)
    first (d ∷ docs) k = omega arith

  some : (ss : List SegmentData) → 1 ≤ length ss → AllByRecursion (λ (s : SegmentData). 1 ≤ length s.docs) ss → 1 ≤ length (term_entries t.term ss)
  some [] k has = absurd (omega arith)
  some (s ∷ ss) k has = some_docs s (term_entries t.term ss) has.0

  by : terms_of (flat_of_terms ts) ≡ texts_of ts → (es : List (Entry (List ℕ))) → AllByRecursion (λ (e : Entry (List ℕ)). e.term ≡ t.term) es → 1 ≤ length es → terms_of (es ++ flat_of_terms ts) ≡ t.term ∷ texts_of ts
  by rest [] same k = absurd (omega arith)
  by rest (e ∷ es) same k =
      let P : List (List ℕ) → Type 0 = λ (l : List (List ℕ)). AllByRecursion (λ (s : List ℕ). t.term ≢ s) l in
      joined t.term e es (flat_of_terms ts) same (subst P (sym rest) h.0) ∙ ap (λ (l : List (List ℕ)). t.term ∷ l) rest

-- ---- the numbers

module _ (all : List (List ℕ)) (differ : AllPairs (λ (s t : List ℕ). s ≢ t) all) where
  number_at : (front : List (List ℕ)) (t : List ℕ) (back : List (List ℕ)) → all ≡ front ++ t ∷ back → number_of all t ≡ length front
  number_at front t back e =
      let at : get_or all (length front) [] ≡ t = ap (λ (l : List (List ℕ)). get_or l (length front) []) e ∙ get_or_at front t back [] (length front) refl in
      let size : length all ≡ length front + suc (length back) = ap length e ∙ length-append front (t ∷ back) in
      let low : length front < length all = omega (arith, size) in
      let before : (k : ℕ) → k < length front → bytes_eq (get_or all k []) t ≡ false
      = λ k b. false_from_ne_true (bytes_eq (get_or all k []) t) (λ eq. differ k (length front) [] b low ((bytes_eq-Decides (get_or all k []) t).0 eq ∙ sym at)) in
      let here : length front < length all → bytes_eq (get_or all (length front) []) t ≡ true = λ l. (bytes_eq-Decides (get_or all (length front) []) t).1 at in
      position_or_len_is (λ s. bytes_eq s t) all (length front) [] (omega arith) before here

  renumber : Entry (List ℕ) → Entry ℕ
  renumber e = record { term = number_of all e.term; doc = e.doc; impact = e.impact }

  renumbered_term : (t : List ℕ) (segments : List SegmentData) → map renumber (term_entries t segments) ≡ term_entries (number_of all t) segments
  unfolding renumber
  renumbered_term t [] = refl
  renumbered_term t (s ∷ ss) = map-append renumber (segment_entries t s) (term_entries t ss)
      ∙ ap₂ (λ (x y : List (Entry ℕ)). x ++ y) (map-map renumber (λ (doc : ℕ). record { term = t; doc = doc; impact = s.impact }) s.docs) (renumbered_term t ss)

  renumbered : (front : List (List ℕ)) (terms : List TermData) → all ≡ front ++ texts_of terms → map renumber (flat_of_terms terms) ≡ numbered_from (length front) terms
  renumbered front [] e = refl
  renumbered front (t ∷ ts) e =
      map-append renumber (term_entries t.term t.segments) (flat_of_terms ts)
      ∙ ap₂ (λ (x y : List (Entry ℕ)). x ++ y)
      (renumbered_term t.term t.segments ∙ ap (λ (n : ℕ). term_entries n t.segments) (number_at front t.term (texts_of ts) e))
      (renumbered (front ++ t.term ∷ []) ts (e ∙ sym (append_assoc front (t.term ∷ []) (texts_of ts))) ∙ ap (λ (n : ℕ). numbered_from n ts) (length_push front t.term ∙ add-one (length front)))

pub terms_are_texts : (terms : List TermData) → AllByRecursion HasDocuments terms → AllPairs RisesTo terms → terms_of (flat_of_terms terms) ≡ texts_of terms
terms_are_texts terms have rising = texts terms have (apart terms rising)

pub numbered_is : (terms : List TermData) → AllByRecursion HasDocuments terms → AllPairs RisesTo terms → numbered (flat_of_terms terms) ≡ numbered_from 0 terms
unfolding renumber
numbered_is terms have rising =
    let differ : Pairs (λ (s t : List ℕ). s ≢ t) (texts_of terms) = apart terms rising in
    ap (λ (l : List (List ℕ)). map (λ (e : Entry (List ℕ)). record { term = number_of l e.term; doc = e.doc; impact = e.impact }) (flat_of_terms terms)) (texts terms have differ)
    ∙ renumbered (texts_of terms) (pairs_by_places (λ (s t : List ℕ). s ≢ t) (texts_of terms) differ) [] terms refl
