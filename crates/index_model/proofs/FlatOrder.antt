-- A flat list of segments under rising keys, terms or their numbers, is flat.
use Rattle.shared_lemmas.proofs.Common.{◌≡◌, ◌≢◌, ℕ, suc, ◌<◌, ◌≤◌, List, [], ◌∷◌, ◌++◌, length, true, false, refl, sym, ap, ◌∙◌, subst, arith, map, Contains, AllByRecursion, Ordering, Less, Equal, Greater, IsTotalOrder, slice_cmp, is_gt, is_lt, nat_cmp, ordering_then, nat_cmp_total}
use Rattle.shared_lemmas.proofs.Common.{nat_list_cmp_total, tied_itself, nat_tests, recursion_from_All, All-from_recursion, All-contains_itself}
use Rattle.shared_lemmas.proofs.Pairs.{Pairs, pairs_by_recursion, pairs_by_places, pairs_weaker, pairs_append, pairs_map, rising_pairs}
use Rattle.shared_lemmas.proofs.Lists.{all_weaker, all_append, all_map, all_across, all_of}
use Rattle.ranking_model.specs.declared.entry.Entry.{Entry}
use Rattle.ranking_model.specs.Flat.{entry_cmp, IsFlat}
use Rattle.ranking_model.proofs.Sorting.{Ascends, ascends_append, sorted_ascending}
use Rattle.ranking_model.proofs.Orders.{entry_total}
use Rattle.index_model.specs.Index.{SegmentData, TermData, IndexData, IsSegment, IsTerm, IsWellFormed, FallsTo, SharesNoDocument, RisesTo}
use Rattle.index_model.specs.Flat.{doc_entries, segment_entries, term_entries, flat_of_terms, flat_of, numbered_from, numbered_flat}
use Rattle.index_model.proofs.Numbers.{own_entries}

less_is : (m n : ℕ) → m < n → nat_cmp m n ≡ Less
less_is m n l = grind (arith, nat_tests)

equal_is : (n : ℕ) → nat_cmp n n ≡ Equal
equal_is n = grind (arith, nat_tests)

-- what is kept of a term's segments
pub record Kept (documents : ℕ) (segments : List SegmentData) : Type 0 where
  pub falling : Pairs FallsTo segments
  pub rising : AllByRecursion (λ (s : SegmentData). Pairs (λ (x y : ℕ). x < y) s.docs) segments
  pub once : Pairs SharesNoDocument segments
  pub below : AllByRecursion (λ (s : SegmentData). AllByRecursion (λ (doc : ℕ). doc < documents) s.docs) segments
  pub impacts : AllByRecursion (λ (s : SegmentData). (1 ≤ s.impact) × (s.impact ≤ 65535)) segments

-- the segments fall by their impacts, and the documents of each rise
abbrev pub Stand : List SegmentData → Type 0
Stand segments = Pairs FallsTo segments × AllByRecursion (λ (s : SegmentData). Pairs (λ (x y : ℕ). x < y) s.docs) segments

module _ {T : Type 0} (cmp : T → T → Ordering) (total : IsTotalOrder cmp) where
  abbrev pub flat_keyed : List (T × List SegmentData) → List (Entry T)
  flat_keyed [] = []
  flat_keyed (k ∷ ks) = term_entries k.0 k.1 ++ flat_keyed ks

  abbrev pub KeysRise : (T × List SegmentData) → (T × List SegmentData) → Type 0
  KeysRise a b = is_lt (cmp a.0 b.0) ≡ true

  abbrev NotAfter : Entry T → Entry T → Type 0
  NotAfter a b = is_gt (entry_cmp cmp a b) ≡ false

  first_less : (r s t : Ordering) → is_lt r ≡ true → is_gt (ordering_then (ordering_then r s) t) ≡ false
  first_less Less s t is = refl
  first_less Equal s t is = absurd cc
  first_less Greater s t is = absurd cc

  own_key : (a b : T) → a ≡ b → cmp a b ≡ Equal
  own_key a b e = ap (cmp a) (sym e) ∙ tied_itself total a

  by_term : (a b : Entry T) → is_lt (cmp a.term b.term) ≡ true → NotAfter a b
  by_term a b l = first_less (cmp a.term b.term) (nat_cmp b.impact a.impact) (nat_cmp a.doc b.doc) l

  by_impact : (a b : Entry T) → a.term ≡ b.term → b.impact < a.impact → NotAfter a b
  by_impact a b t h = rw (own_key a.term b.term t, less_is b.impact a.impact h) refl

  by_doc : (a b : Entry T) → a.term ≡ b.term → a.impact ≡ b.impact → a.doc < b.doc → NotAfter a b
  by_doc a b t i h = rw (own_key a.term b.term t, i, equal_is b.impact, less_is a.doc b.doc h) refl

  -- ---- the order

  docs_ascend : (n : T) (impact : ℕ) (docs : List ℕ) → Pairs (λ (x y : ℕ). x < y) docs → Ascends (entry_cmp cmp) (doc_entries n impact docs)
  docs_ascend n impact [] h = tt
  docs_ascend n impact (d ∷ ds) h = (
    all_map (λ (e : Entry T). NotAfter (record { term = n; doc = d; impact = impact }) e) (λ (doc : ℕ). record { term = n; doc = doc; impact = impact }) ds
        (all_weaker (λ (y : ℕ). d < y) (λ (y : ℕ). NotAfter (record { term = n; doc = d; impact = impact }) (record { term = n; doc = y; impact = impact })) (λ y l. by_doc (record { term = n; doc = d; impact = impact }) (record { term = n; doc = y; impact = impact }) refl refl l) ds h.0),
    docs_ascend n impact ds h.1,
  )

  at_impact : (n : T) (impact : ℕ) (docs : List ℕ) → AllByRecursion (λ (e : Entry T). (e.term ≡ n) × (e.impact ≡ impact)) (doc_entries n impact docs)
  at_impact n impact [] = tt
  at_impact n impact (d ∷ ds) = ((refl, refl), at_impact n impact ds)

  below_impact : (n : T) (top : ℕ) (segments : List SegmentData) → AllByRecursion (λ (s : SegmentData). s.impact < top) segments → AllByRecursion (λ (e : Entry T). (e.term ≡ n) × (e.impact < top)) (term_entries n segments)
  below_impact n top [] h = tt
  below_impact n top (s ∷ ss) h = all_append (λ (e : Entry T). (e.term ≡ n) × (e.impact < top)) (segment_entries n s) (term_entries n ss)
      (all_weaker (λ (e : Entry T). (e.term ≡ n) × (e.impact ≡ s.impact)) (λ (e : Entry T). (e.term ≡ n) × (e.impact < top)) (λ e k. (k.0, omega (arith, k.1, h.0))) (segment_entries n s) (at_impact n s.impact s.docs))
      (below_impact n top ss h.1)

  term_ascends : (n : T) (segments : List SegmentData) → Pairs FallsTo segments → AllByRecursion (λ (s : SegmentData). Pairs (λ (x y : ℕ). x < y) s.docs) segments → Ascends (entry_cmp cmp) (term_entries n segments)
  term_ascends n [] h r = tt
  term_ascends n (s ∷ ss) h r = ascends_append (entry_cmp cmp) (segment_entries n s) (term_entries n ss) (docs_ascend n s.impact s.docs r.0) (term_ascends n ss h.1 r.1)
      (all_across (λ (e : Entry T). (e.term ≡ n) × (e.impact ≡ s.impact)) (λ (e : Entry T). (e.term ≡ n) × (e.impact < s.impact)) NotAfter (λ x y p q. by_impact x y (p.0 ∙ sym q.0) (omega (arith, p.1, q.1)))
      (segment_entries n s) (term_entries n ss) (at_impact n s.impact s.docs) (below_impact n s.impact ss h.0))

  behind_key : (P : T → Type 0) (ks : List (T × List SegmentData)) → AllByRecursion (λ (k : T × List SegmentData). P k.0) ks → AllByRecursion (λ (e : Entry T). P e.term) (flat_keyed ks)
  behind_key P [] h = tt
  behind_key P (k ∷ ks) h = all_append (λ (e : Entry T). P e.term) (term_entries k.0 k.1) (flat_keyed ks)
      (all_weaker (λ (e : Entry T). e.term ≡ k.0) (λ (e : Entry T). P e.term) (λ e is. subst P (sym is) h.0) (term_entries k.0 k.1) (own_entries k.0 k.1))
      (behind_key P ks h.1)

  keyed_ascends : (ks : List (T × List SegmentData)) → Pairs KeysRise ks → AllByRecursion (λ (k : T × List SegmentData). Stand k.1) ks → Ascends (entry_cmp cmp) (flat_keyed ks)
  keyed_ascends [] h stand = tt
  keyed_ascends (k ∷ ks) h stand = ascends_append (entry_cmp cmp) (term_entries k.0 k.1) (flat_keyed ks) (term_ascends k.0 k.1 stand.0.0 stand.0.1) (keyed_ascends ks h.1 stand.1)
      (all_across (λ (e : Entry T). e.term ≡ k.0) (λ (e : Entry T). is_lt (cmp k.0 e.term) ≡ true) NotAfter (λ x y p q. by_term x y (subst (λ (t : T). is_lt (cmp t y.term) ≡ true) (sym p) q)) (term_entries k.0 k.1) (flat_keyed ks)
      (own_entries k.0 k.1) (behind_key (λ (t : T). is_lt (cmp k.0 t) ≡ true) ks h.0))

  -- ---- a document once in a term

  abbrev Once : Entry T → Entry T → Type 0
  Once a b = a.term ≡ b.term → a.doc ≢ b.doc

  among : (n : T) (impact : ℕ) (docs : List ℕ) → AllByRecursion (λ (e : Entry T). Contains docs e.doc) (doc_entries n impact docs)
  among n impact docs = all_map (λ (e : Entry T). Contains docs e.doc) (λ (doc : ℕ). record { term = n; doc = doc; impact = impact }) docs (recursion_from_All (Contains docs) docs (All-contains_itself docs))

  none_among : (n : T) (s : SegmentData) (segments : List SegmentData) → AllByRecursion (λ (t : SegmentData). SharesNoDocument s t) segments → AllByRecursion (λ (e : Entry T). ¬ Contains s.docs e.doc) (term_entries n segments)
  none_among n s [] h = tt
  none_among n s (t ∷ ts) h = all_append (λ (e : Entry T). ¬ Contains s.docs e.doc) (segment_entries n t) (term_entries n ts)
      (all_weaker (λ (e : Entry T). Contains t.docs e.doc) (λ (e : Entry T). ¬ Contains s.docs e.doc) (λ e k i. h.0 e.doc i k) (segment_entries n t) (among n t.impact t.docs))
      (none_among n s ts h.1)

  term_once : (n : T) (segments : List SegmentData) → Pairs SharesNoDocument segments → AllByRecursion (λ (s : SegmentData). Pairs (λ (x y : ℕ). x < y) s.docs) segments → Pairs Once (term_entries n segments)
  term_once n [] h r = tt
  term_once n (s ∷ ss) h r = pairs_append Once (segment_entries n s) (term_entries n ss)
      (pairs_map Once (λ (doc : ℕ). record { term = n; doc = doc; impact = s.impact }) s.docs
      (pairs_weaker (λ (x y : ℕ). x < y) (λ (x y : ℕ). n ≡ n → x ≢ y) (λ x y l _ e. omega (arith, l, e)) s.docs r.0))
      (term_once n ss h.1 r.1)
      (all_across (λ (e : Entry T). Contains s.docs e.doc) (λ (e : Entry T). ¬ Contains s.docs e.doc) Once (λ x y p q _ e. q (subst (Contains s.docs) e p)) (segment_entries n s) (term_entries n ss) (among n s.impact s.docs) (none_among n s ss h.0))

  not_less_itself : (r : Ordering) → r ≡ Equal → is_lt r ≡ true → ⊥
  not_less_itself Less e l = absurd cc
  not_less_itself Equal e l = absurd cc
  not_less_itself Greater e l = absurd cc

  keyed_once : (d : ℕ) (ks : List (T × List SegmentData)) → Pairs KeysRise ks → AllByRecursion (λ (k : T × List SegmentData). Kept d k.1) ks → Pairs Once (flat_keyed ks)
  keyed_once d [] h kept = tt
  keyed_once d (k ∷ ks) h kept = pairs_append Once (term_entries k.0 k.1) (flat_keyed ks) (term_once k.0 k.1 kept.0.once kept.0.rising) (keyed_once d ks h.1 kept.1)
      (all_across (λ (e : Entry T). e.term ≡ k.0) (λ (e : Entry T). is_lt (cmp k.0 e.term) ≡ true) Once (λ x y p q e. absurd (not_less_itself (cmp k.0 y.term) (own_key k.0 y.term (sym p ∙ e)) q)) (term_entries k.0 k.1) (flat_keyed ks)
      (own_entries k.0 k.1) (behind_key (λ (t : T). is_lt (cmp k.0 t) ≡ true) ks h.0))

  -- ---- documents and impacts

  module _ (P : ℕ → ℕ → Type 0) where
    -- what holds of each document and its impact
    abbrev Each : Entry T → Type 0
    Each e = P e.doc e.impact

    each_doc : (n : T) (impact : ℕ) (docs : List ℕ) → AllByRecursion (λ (doc : ℕ). P doc impact) docs → AllByRecursion Each (doc_entries n impact docs)
    each_doc n impact docs h = all_map Each (λ (doc : ℕ). record { term = n; doc = doc; impact = impact }) docs h

    each_segment : (n : T) (segments : List SegmentData) → AllByRecursion (λ (s : SegmentData). AllByRecursion (λ (doc : ℕ). P doc s.impact) s.docs) segments → AllByRecursion Each (term_entries n segments)
    each_segment n [] h = tt
    each_segment n (s ∷ ss) h = all_append Each (segment_entries n s) (term_entries n ss) (each_doc n s.impact s.docs h.0) (each_segment n ss h.1)

    each_key : (ks : List (T × List SegmentData)) → AllByRecursion (λ (k : T × List SegmentData). AllByRecursion (λ (s : SegmentData). AllByRecursion (λ (doc : ℕ). P doc s.impact) s.docs) k.1) ks → AllByRecursion Each (flat_keyed ks)
    each_key [] h = tt
    each_key (k ∷ ks) h = all_append Each (term_entries k.0 k.1) (flat_keyed ks) (each_segment k.0 k.1 h.0) (each_key ks h.1)

  keyed_flat : (d : ℕ) (ks : List (T × List SegmentData)) → Pairs KeysRise ks → AllByRecursion (λ (k : T × List SegmentData). Kept d k.1) ks → IsFlat cmp d (flat_keyed ks)
  keyed_flat d ks rise kept =
      let flat : List (Entry T) = flat_keyed ks in
      record {
        order = sorted_ascending (entry_cmp cmp) (entry_total cmp total) flat (keyed_ascends ks rise
            (all_weaker (λ (k : T × List SegmentData). Kept d k.1) (λ (k : T × List SegmentData). Stand k.1) (λ k is. (is.falling, is.rising)) ks kept));
        once = pairs_by_places Once flat (keyed_once d ks rise kept);
        documents = All-from_recursion (λ (e : Entry T). e.doc < d) flat (each_key (λ (doc impact : ℕ). doc < d) ks
            (all_weaker (λ (k : T × List SegmentData). Kept d k.1) (λ (k : T × List SegmentData). AllByRecursion (λ (s : SegmentData). AllByRecursion (λ (doc : ℕ). doc < d) s.docs) k.1) (λ k is. is.below) ks kept));
        impacts = All-from_recursion (λ (e : Entry T). (1 ≤ e.impact) × (e.impact ≤ 65535)) flat (each_key (λ (doc impact : ℕ). (1 ≤ impact) × (impact ≤ 65535)) ks
            (all_weaker (λ (k : T × List SegmentData). Kept d k.1) (λ (k : T × List SegmentData). AllByRecursion (λ (s : SegmentData). AllByRecursion (λ (doc : ℕ). (1 ≤ s.impact) × (s.impact ≤ 65535)) s.docs) k.1)
            (λ k is. all_weaker (λ (s : SegmentData). (1 ≤ s.impact) × (s.impact ≤ 65535)) (λ (s : SegmentData). AllByRecursion (λ (doc : ℕ). (1 ≤ s.impact) × (s.impact ≤ 65535)) s.docs)
            (λ s fits. all_of (λ (doc : ℕ). (1 ≤ s.impact) × (s.impact ≤ 65535)) (λ doc. fits) s.docs) k.1 is.impacts) ks kept));
      }

-- ---- the terms of an index

pub term_kept : (d : ℕ) (t : TermData) → IsTerm d t → Kept d t.segments
term_kept d t is =
    let each : AllByRecursion (IsSegment d) t.segments = recursion_from_All (IsSegment d) t.segments is.segments in
    record {
      falling = pairs_by_recursion FallsTo t.segments is.falling;
      rising = all_weaker (IsSegment d) (λ (s : SegmentData). Pairs (λ (x y : ℕ). x < y) s.docs) (λ s k. rising_pairs s.docs k.docs.rising) t.segments each;
      once = pairs_by_recursion SharesNoDocument t.segments is.once;
      below = all_weaker (IsSegment d) (λ (s : SegmentData). AllByRecursion (λ (doc : ℕ). doc < d) s.docs) (λ s k. recursion_from_All (λ (doc : ℕ). doc < d) s.docs k.docs.below) t.segments each;
      impacts = all_weaker (IsSegment d) (λ (s : SegmentData). (1 ≤ s.impact) × (s.impact ≤ 65535)) (λ s k. k.impact) t.segments each;
    }

-- by the bytes
abbrev keys_of : List TermData → List (List ℕ × List SegmentData)
keys_of terms = map (λ (t : TermData). (t.term, t.segments)) terms

of_keys : (terms : List TermData) → flat_keyed (slice_cmp nat_cmp) nat_list_cmp_total (keys_of terms) ≡ flat_of_terms terms
of_keys [] = refl
of_keys (t ∷ ts) = ap (λ (l : List (Entry (List ℕ))). term_entries t.term t.segments ++ l) (of_keys ts)

keys_rise : (terms : List TermData) → Pairs RisesTo terms → Pairs (KeysRise (slice_cmp nat_cmp) nat_list_cmp_total) (keys_of terms)
keys_rise terms h = pairs_map (KeysRise (slice_cmp nat_cmp) nat_list_cmp_total) (λ (t : TermData). (t.term, t.segments)) terms h

keys_kept : (d : ℕ) (terms : List TermData) → AllByRecursion (IsTerm d) terms → AllByRecursion (λ (k : List ℕ × List SegmentData). Kept d k.1) (keys_of terms)
keys_kept d terms h = all_map (λ (k : List ℕ × List SegmentData). Kept d k.1) (λ (t : TermData). (t.term, t.segments)) terms
    (all_weaker (IsTerm d) (λ (t : TermData). Kept d t.segments) (term_kept d) terms h)

-- terms that rise, and whose segments and documents stand in order, have their entries in order
pub terms_ascend : (terms : List TermData) → Pairs RisesTo terms → AllByRecursion (λ (t : TermData). Stand t.segments) terms → Ascends (entry_cmp (slice_cmp nat_cmp)) (flat_of_terms terms)
terms_ascend terms rise stand = subst (Ascends (entry_cmp (slice_cmp nat_cmp))) (of_keys terms)
    (keyed_ascends (slice_cmp nat_cmp) nat_list_cmp_total (keys_of terms) (keys_rise terms rise) (all_map (λ (k : List ℕ × List SegmentData). Stand k.1) (λ (t : TermData). (t.term, t.segments)) terms stand))

pub bytes_flat : (index : IndexData) → IsWellFormed index → IsFlat (slice_cmp nat_cmp) (length index.names) (flat_of index)
bytes_flat index is =
    let d = length index.names in
    subst (IsFlat (slice_cmp nat_cmp) d) (of_keys index.terms)
    (keyed_flat (slice_cmp nat_cmp) nat_list_cmp_total d (keys_of index.terms) (keys_rise index.terms (pairs_by_recursion RisesTo index.terms is.rising)) (keys_kept d index.terms (recursion_from_All (IsTerm d) index.terms is.terms)))

-- by the numbers
abbrev numbers_of : ℕ → List TermData → List (ℕ × List SegmentData)
numbers_of n [] = []
numbers_of n (t ∷ ts) = (n, t.segments) ∷ numbers_of (suc n) ts

of_numbers : (n : ℕ) (terms : List TermData) → flat_keyed nat_cmp nat_cmp_total (numbers_of n terms) ≡ numbered_from n terms
of_numbers n [] = refl
of_numbers n (t ∷ ts) = ap (λ (l : List (Entry ℕ)). term_entries n t.segments ++ l) (of_numbers (suc n) ts)

below_number : (m n : ℕ) (ts : List TermData) → m < n → AllByRecursion (λ (k : ℕ × List SegmentData). is_lt (nat_cmp m k.0) ≡ true) (numbers_of n ts)
below_number m n [] l = tt
below_number m n (t ∷ ts) l = (ap is_lt (less_is m n l), below_number m (suc n) ts (omega (arith, l)))

numbers_rise : (n : ℕ) (terms : List TermData) → Pairs (KeysRise nat_cmp nat_cmp_total) (numbers_of n terms)
numbers_rise n [] = tt
numbers_rise n (t ∷ ts) = (below_number n (suc n) ts (omega arith), numbers_rise (suc n) ts)

numbers_kept : (d n : ℕ) (terms : List TermData) → AllByRecursion (IsTerm d) terms → AllByRecursion (λ (k : ℕ × List SegmentData). Kept d k.1) (numbers_of n terms)
numbers_kept d n [] h = tt
numbers_kept d n (t ∷ ts) h = (term_kept d t h.0, numbers_kept d (suc n) ts h.1)

pub numbers_flat : (index : IndexData) → IsWellFormed index → IsFlat nat_cmp (length index.names) (numbered_flat index)
numbers_flat index is =
    let d = length index.names in
    subst (IsFlat nat_cmp d) (of_numbers 0 index.terms)
    (keyed_flat nat_cmp nat_cmp_total d (numbers_of 0 index.terms) (numbers_rise 0 index.terms) (numbers_kept d 0 index.terms (recursion_from_All (IsTerm d) index.terms is.terms)))
