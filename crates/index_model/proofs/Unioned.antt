-- The union of parts is its parts merged.
use Rattle.shared_lemmas.proofs.Common.{◌≡◌, ℕ, ◌+◌, ◌<◌, ◌≤◌, List, [], ◌∷◌, ◌++◌, map, length, refl, sym, ap, ap₂, ◌∙◌, subst, arith, IsPermutation, AllByRecursion, Less, Equal, Greater, is_lt, nat_cmp, slice_cmp, nat_list_cmp_total, slice_cmp-IsAntisymmetric, nat_cmp-IsAntisymmetric, nat_tests}
use Rattle.shared_lemmas.proofs.Common.{map-append, length-map, recursion_from_All, IsPermutation-append_right, IsPermutation-refl, IsPermutation-trans}
use Rattle.std.proofs.Common.{length-append}
use Rattle.shared_lemmas.proofs.Lists.{all_weaker, all_append, all_map, all_across}
use Rattle.shared_lemmas.proofs.Pairs.{Pairs, pairs_append, pairs_by_recursion, pairs_map, pairs_weaker, rising_pairs}
use Rattle.jass_base.proofs.ByteOrder.{bytes_fall, bytes_rise_on}
use Rattle.jass_base.specs.Terms.{BytesRise}
use Rattle.ranking_model.specs.declared.entry.Entry.{Entry}
use Rattle.ranking_model.specs.Flat.{entry_cmp}
use Rattle.ranking_model.specs.Order.{sorted}
use Rattle.ranking_model.proofs.Orders.{entry_same, entry_total}
use Rattle.ranking_model.proofs.Sorting.{sort_is_sorted, sorted_ascending}
use Rattle.index_model.specs.Index.{SegmentData, TermData, IndexData, IsSegment, IsTerm, IsWellFormed, FallsTo, RisesTo}
use Rattle.index_model.specs.Flat.{doc_entries, segment_entries, term_entries, flat_of_terms, flat_of}
use Rattle.index_model.specs.Grouping.{with_entries, index_with}
use Rattle.index_model.specs.Unions.{raised_segment, raised_term, raised_entries, union_names, union_entries, union_of}
use Rattle.index_model.specs.Merging.{segment_cmp, joined_segment, merged_segments, term_cmp, joined_term, merged_terms, union_terms}
use Rattle.index_model.proofs.FlatOrder.{Stand, terms_ascend}
use Rattle.index_model.proofs.Groups.{HasSome, IsFull, terms_there}
use Rattle.index_model.proofs.Merged.{all_merged, items_merged, pairs_merged, some_merged}

-- ---- raised entries

raised_segments : (base : ℕ) (term : List ℕ) (segments : List SegmentData) → term_entries term (map (raised_segment base) segments) ≡ raised_entries base (term_entries term segments)
raised_segments base term [] = refl
raised_segments base term (s ∷ ss) =
    ap₂ (λ (x y : List (Entry (List ℕ))). x ++ y) (one s.docs) (raised_segments base term ss)
    ∙ sym (map-append (λ (e : Entry (List ℕ)). record { term = e.term; doc = base + e.doc; impact = e.impact }) (segment_entries term s) (term_entries term ss))
  where
    one : (docs : List ℕ) → doc_entries term s.impact (map (λ d. base + d) docs) ≡ raised_entries base (doc_entries term s.impact docs)
    one [] = refl
    one (d ∷ docs) = ap (λ (l : List (Entry (List ℕ))). (let e : Entry (List ℕ) = record { term = term; doc = base + d; impact = s.impact } in e ∷ l)) (one docs)

pub raised_flat : (base : ℕ) (terms : List TermData) → flat_of_terms (map (raised_term base) terms) ≡ raised_entries base (flat_of_terms terms)
raised_flat base [] = refl
raised_flat base (t ∷ terms) =
    ap₂ (λ (x y : List (Entry (List ℕ))). x ++ y) (raised_segments base t.term t.segments) (raised_flat base terms)
    ∙ sym (map-append (λ (e : Entry (List ℕ)). record { term = e.term; doc = base + e.doc; impact = e.impact }) (term_entries t.term t.segments) (flat_of_terms terms))

-- ---- the same entries

same_impact : (s t : SegmentData) → segment_cmp s t ≡ Equal → t.impact ≡ s.impact
same_impact s t tie = nat_cmp-IsAntisymmetric t.impact s.impact tie

pub same_bytes : (s t : TermData) → term_cmp s t ≡ Equal → s.term ≡ t.term
same_bytes s t tie = slice_cmp-IsAntisymmetric nat_cmp-IsAntisymmetric s.term t.term tie

segments_items : (term : List ℕ) (first second : List SegmentData) → IsPermutation (term_entries term first ++ term_entries term second) (term_entries term (merged_segments first second))
segments_items term first second = items_merged segment_cmp joined_segment (segment_entries term) both first second where
  both : (s t : SegmentData) → segment_cmp s t ≡ Equal → IsPermutation (segment_entries term s ++ segment_entries term t) (segment_entries term (joined_segment s t))
  both s t tie = subst (λ (l : List (Entry (List ℕ))). IsPermutation (segment_entries term s ++ segment_entries term t) l)
      (ap (λ (n : ℕ). segment_entries term s ++ doc_entries term n t.docs) (same_impact s t tie) ∙ sym (map-append (λ (doc : ℕ). record { term = term; doc = doc; impact = s.impact }) s.docs t.docs))
      (IsPermutation-refl (segment_entries term s ++ segment_entries term t))

terms_items : (first second : List TermData) → IsPermutation (flat_of_terms first ++ flat_of_terms second) (flat_of_terms (merged_terms first second))
terms_items first second = items_merged term_cmp joined_term (λ (t : TermData). term_entries t.term t.segments) both first second where
  both : (s t : TermData) → term_cmp s t ≡ Equal → IsPermutation (term_entries s.term s.segments ++ term_entries t.term t.segments) (term_entries s.term (merged_segments s.segments t.segments))
  both s t tie = subst (λ (term : List ℕ). IsPermutation (term_entries s.term s.segments ++ term_entries term t.segments) (term_entries s.term (merged_segments s.segments t.segments))) (same_bytes s t tie) (segments_items s.term s.segments t.segments)

pub union_items : (base : ℕ) (parts : List IndexData) → IsPermutation (union_entries base parts) (flat_of_terms (union_terms base parts))
union_items base [] = IsPermutation-refl []
union_items base (p ∷ parts) =
    let later = base + length p.names in
    let first = map (raised_term base) p.terms in
    IsPermutation-trans (raised_entries base (flat_of p) ++ union_entries later parts) (flat_of_terms first ++ flat_of_terms (union_terms later parts)) (flat_of_terms (merged_terms first (union_terms later parts)))
    (subst (λ (l : List (Entry (List ℕ))). IsPermutation (l ++ union_entries later parts) (flat_of_terms first ++ flat_of_terms (union_terms later parts))) (raised_flat base p.terms)
    (IsPermutation-append_right (flat_of_terms first) (union_entries later parts) (flat_of_terms (union_terms later parts)) (union_items later parts)))
    (terms_items first (union_terms later parts))

-- ---- the same order

-- a segment has documents from `low` on and below `high`, which rise
pub record Held (low high : ℕ) (s : SegmentData) : Type 0 where
  pub some : 0 < length s.docs
  pub rising : Pairs (λ (x y : ℕ). x < y) s.docs
  pub within : AllByRecursion (λ (x : ℕ). (low ≤ x) × (x < high)) s.docs

-- a term has such segments, by falling impact
pub record HeldTerm (low high : ℕ) (t : TermData) : Type 0 where
  pub some : 1 ≤ length t.segments
  pub falling : Pairs FallsTo t.segments
  pub held : AllByRecursion (Held low high) t.segments

raised_held : (base d : ℕ) (s : SegmentData) → IsSegment d s → Held base (base + d) (raised_segment base s)
raised_held base d s is = record {
  some = omega (arith, is.docs.some, length-map s.docs (λ d. base + d));
  rising = pairs_map (λ (x y : ℕ). x < y) (λ d. base + d) s.docs (pairs_weaker (λ (x y : ℕ). x < y) (λ (x y : ℕ). base + x < base + y) (λ x y l. omega (arith, l)) s.docs (rising_pairs s.docs is.docs.rising));
  within = all_map (λ (x : ℕ). (base ≤ x) × (x < base + d)) (λ d. base + d) s.docs (all_weaker (λ (x : ℕ). x < d) (λ (x : ℕ). (base ≤ base + x) × (base + x < base + d)) (λ x l. (omega arith, omega (arith, l))) s.docs (recursion_from_All (λ (x : ℕ). x < d) s.docs is.docs.below));
}

pub raised_term_held : (base d : ℕ) (t : TermData) → IsTerm d t → HeldTerm base (base + d) (raised_term base t)
raised_term_held base d t is = record {
  some = omega (arith, is.some, length-map t.segments (raised_segment base));
  falling = pairs_map FallsTo (raised_segment base) t.segments (pairs_by_recursion FallsTo t.segments is.falling);
  held = all_map (Held base (base + d)) (raised_segment base) t.segments (all_weaker (IsSegment d) (λ (s : SegmentData). Held base (base + d) (raised_segment base s)) (raised_held base d) t.segments (recursion_from_All (IsSegment d) t.segments is.segments));
}

pub falls_merged : (first second : List SegmentData) → Pairs FallsTo first → Pairs FallsTo second → Pairs FallsTo (merged_segments first second)
falls_merged first second h k = pairs_merged segment_cmp joined_segment FallsTo
    (λ x y is. less y.impact x.impact is) (λ x y is. greater y.impact x.impact is) (λ x y z tie falls. subst (λ (n : ℕ). z.impact < n) (same_impact x y tie) falls) (λ x y z one two. omega (arith, one, two)) (λ x y z falls. falls) (λ x y z falls. falls) first second h k
  where
    less : (m n : ℕ) → nat_cmp m n ≡ Less → m < n
    less m n is = grind (arith, nat_tests, is)

    greater : (m n : ℕ) → nat_cmp m n ≡ Greater → n < m
    greater m n is = grind (arith, nat_tests, is)

pub rises_merged : (first second : List TermData) → Pairs RisesTo first → Pairs RisesTo second → Pairs RisesTo (merged_terms first second)
rises_merged first second h k = pairs_merged term_cmp joined_term RisesTo
    (λ x y is. ap is_lt is) (λ x y is. bytes_fall x.term y.term is) (λ x y z tie rises. subst (λ (term : List ℕ). BytesRise term z.term) (sym (same_bytes x y tie)) rises) (λ x y z one two. bytes_rise_on x.term y.term z.term one two) (λ x y z rises. rises) (λ x y z rises. rises) first second h k

module _ (a b c : ℕ) (ab : a ≤ b) (bc : b ≤ c) where
  abbrev In : ℕ → ℕ → ℕ → Type 0
  In low high x = (low ≤ x) × (x < high)

  first_in : (docs : List ℕ) → AllByRecursion (In a b) docs → AllByRecursion (In a c) docs
  first_in docs h = all_weaker (In a b) (In a c) (λ x i. (i.0, omega (arith, i.1, bc))) docs h

  second_in : (docs : List ℕ) → AllByRecursion (In b c) docs → AllByRecursion (In a c) docs
  second_in docs h = all_weaker (In b c) (In a c) (λ x i. (omega (arith, i.0, ab), i.1)) docs h

  first_held : (s : SegmentData) → Held a b s → Held a c s
  first_held s h = record { some = h.some; rising = h.rising; within = first_in s.docs h.within }

  second_held : (s : SegmentData) → Held b c s → Held a c s
  second_held s h = record { some = h.some; rising = h.rising; within = second_in s.docs h.within }

  joined_held : (s t : SegmentData) → Held a b s → Held b c t → Held a c (joined_segment s t)
  joined_held s t h k = record {
    some = omega (arith, h.some, length-append s.docs t.docs);
    rising = pairs_append (λ (x y : ℕ). x < y) s.docs t.docs h.rising k.rising (all_across (In a b) (In b c) (λ (x y : ℕ). x < y) (λ x y i j. omega (arith, i.1, j.0)) s.docs t.docs h.within k.within);
    within = all_append (In a c) s.docs t.docs (first_in s.docs h.within) (second_in t.docs k.within);
  }

  segments_held : (first second : List SegmentData) → AllByRecursion (Held a b) first → AllByRecursion (Held b c) second → AllByRecursion (Held a c) (merged_segments first second)
  segments_held first second h k = all_merged segment_cmp joined_segment (Held a b) (Held b c) (Held a c) first_held second_held (λ s t tie h k. joined_held s t h k) first second h k

  pub terms_held : (first second : List TermData) → AllByRecursion (HeldTerm a b) first → AllByRecursion (HeldTerm b c) second → AllByRecursion (HeldTerm a c) (merged_terms first second)
  terms_held first second h k = all_merged term_cmp joined_term (HeldTerm a b) (HeldTerm b c) (HeldTerm a c)
      (λ t is. record { some = is.some; falling = is.falling; held = all_weaker (Held a b) (Held a c) first_held t.segments is.held })
      (λ t is. record { some = is.some; falling = is.falling; held = all_weaker (Held b c) (Held a c) second_held t.segments is.held })
      (λ s t tie is are. record {
        some = some_merged segment_cmp joined_segment s.segments t.segments is.some;
        falling = falls_merged s.segments t.segments is.falling are.falling;
        held = segments_held s.segments t.segments is.held are.held;
      }) first second h k

pub union_held : (base : ℕ) (parts : List IndexData) → AllByRecursion IsWellFormed parts → AllByRecursion (HeldTerm base (base + length (union_names parts))) (union_terms base parts)
union_held base [] are = tt
union_held base (p ∷ parts) are =
    let later = base + length p.names in
    let end = base + length (p.names ++ union_names parts) in
    let same : later + length (union_names parts) ≡ end = omega (arith, length-append p.names (union_names parts)) in
    terms_held base later end (omega arith) (omega (arith, same)) (map (raised_term base) p.terms) (union_terms later parts)
    (all_map (HeldTerm base later) (raised_term base) p.terms (all_weaker (IsTerm (length p.names)) (λ (t : TermData). HeldTerm base later (raised_term base t)) (raised_term_held base (length p.names)) p.terms (recursion_from_All (IsTerm (length p.names)) p.terms are.0.terms)))
    (subst (λ (n : ℕ). AllByRecursion (HeldTerm later n) (union_terms later parts)) same (union_held later parts are.1))

pub union_rises : (base : ℕ) (parts : List IndexData) → AllByRecursion IsWellFormed parts → Pairs RisesTo (union_terms base parts)
union_rises base [] are = tt
union_rises base (p ∷ parts) are = rises_merged (map (raised_term base) p.terms) (union_terms (base + length p.names) parts)
    (pairs_map RisesTo (raised_term base) p.terms (pairs_by_recursion RisesTo p.terms are.0.rising)) (union_rises (base + length p.names) parts are.1)

-- ---- the union

term_stands : (low high : ℕ) (t : TermData) → HeldTerm low high t → Stand t.segments
term_stands low high t is = (is.falling, all_weaker (Held low high) (λ (s : SegmentData). Pairs (λ (x y : ℕ). x < y) s.docs) (λ s h. h.rising) t.segments is.held)

term_full : (low high : ℕ) (t : TermData) → HeldTerm low high t → IsFull t
term_full low high t is = (is.some, all_weaker (Held low high) HasSome (λ s h. h.some) t.segments is.held, is.falling)

pub union_flat : (parts : List IndexData) → AllByRecursion IsWellFormed parts → flat_of_terms (union_terms 0 parts) ≡ sorted (entry_cmp (slice_cmp nat_cmp)) (union_entries 0 parts)
union_flat parts are =
    let cmp = entry_cmp (slice_cmp nat_cmp) in
    let terms = union_terms 0 parts in
    let total = entry_total (slice_cmp nat_cmp) nat_list_cmp_total in
    let end = 0 + length (union_names parts) in
    sort_is_sorted cmp total (entry_same (slice_cmp nat_cmp) (slice_cmp-IsAntisymmetric nat_cmp-IsAntisymmetric)) (union_entries 0 parts) (flat_of_terms terms) (union_items 0 parts)
    (sorted_ascending cmp total (flat_of_terms terms) (terms_ascend terms (union_rises 0 parts are) (all_weaker (HeldTerm 0 end) (λ (t : TermData). Stand t.segments) (term_stands 0 end) terms (union_held 0 parts are))))

pub union_merges : (parts : List IndexData) → AllByRecursion IsWellFormed parts → union_of parts ≡ record { names = union_names parts; terms = union_terms 0 parts }
unfolding union_of index_with
union_merges parts are =
    let terms = union_terms 0 parts in
    let end = 0 + length (union_names parts) in
    ap (λ (l : List TermData). (let i : IndexData = record { names = union_names parts; terms = l } in i))
    (ap (λ (flat : List (Entry (List ℕ))). with_entries flat []) (sym (union_flat parts are))
    ∙ terms_there terms (all_weaker (HeldTerm 0 end) IsFull (term_full 0 end) terms (union_held 0 parts are)) (union_rises 0 parts are))
