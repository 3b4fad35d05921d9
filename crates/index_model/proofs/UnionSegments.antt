-- What a union has of a term and an impact, part after part.
use Rattle.shared_lemmas.proofs.Common.{◌≡◌, ℕ, zero, suc, ◌+◌, ◌==◌, ◌<◌, true, false, List, [], ◌∷◌, ◌++◌, map, length, Some, refl, sym, ap, ap₂, ◌∙◌, subst, arith, inl, inr, is_lt, append-nil, AllByRecursion, Contains, sum_by, sum_by-cons, Less, Equal, Greater, nat_cmp, slice_cmp, nat_cmp-IsAntisymmetric, nat_tests, cases_Bool, eqb-true, ne_eqb, eq-eqb, map-map, length-map, false_from_ne_true}
use Rattle.std.proofs.Common.{length-append}
use Rattle.std.specs.Str.{bytes_eq}
use Rattle.std.specs.List.{slice_get}
use Rattle.shared_lemmas.proofs.Common.{recursion_from_All}
use Rattle.shared_lemmas.proofs.Lists.{all_weaker}
use Rattle.shared_lemmas.proofs.Members.{In, contains_from_in}
use Rattle.shared_lemmas.proofs.Pairs.{Pairs, pairs_by_recursion, pairs_map}
use Rattle.shared_lemmas.proofs.Texts.{bytes_flipped, bytes_itself, bytes_same}
use Rattle.jass_base.proofs.ByteOrder.{bytes_apart, bytes_fall, bytes_rise_on}
use Rattle.jass_base.specs.Terms.{BytesRise}
use Rattle.ranking_model.specs.declared.entry.Entry.{Entry}
use Rattle.ranking_model.specs.Flat.{entry_cmp}
use Rattle.ranking_model.specs.Order.{sorted}
use Rattle.ranking_model.proofs.Sorting.{length_sorted}
use Rattle.index_model.specs.Index.{SegmentData, TermData, IndexData, IsTerm, IsWellFormed, FallsTo, RisesTo}
use Rattle.index_model.specs.Flat.{flat_of, flat_of_terms, segment_entries, term_entries}
use Rattle.index_model.specs.Grouping.{index_with}
use Rattle.index_model.specs.Querying.{segments_at}
use Rattle.index_model.specs.Unions.{raised_segment, raised_term, raised_entries, union_names, union_entries, union_of}
use Rattle.index_model.specs.Merging.{merged, segment_cmp, joined_segment, merged_segments, term_cmp, joined_term, merged_terms, union_terms, segments_of, docs_of, union_segments, union_docs, union_texts, union_impacts}
use Rattle.index_model.proofs.Merged.{by_rank, keys_merged, none_behind}
use Rattle.index_model.proofs.Regrouped.{flat_again}
use Rattle.index_model.proofs.Unioned.{falls_merged, same_bytes, union_rises}

-- ---- the segments of a term

none_of : (bytes : List ℕ) (terms : List TermData) → AllByRecursion (λ (t : TermData). bytes_eq t.term bytes ≡ false) terms → segments_of bytes terms ≡ []
none_of bytes [] others = refl
none_of bytes (t ∷ terms) others = rw others.0 (none_of bytes terms others.1)

-- no later term has the bytes of an earlier one
later_others : (bytes : List ℕ) (t : TermData) (terms : List TermData) → bytes_eq t.term bytes ≡ true → AllByRecursion (RisesTo t) terms → segments_of bytes terms ≡ []
later_others bytes t terms own rises = none_of bytes terms (all_weaker (RisesTo t) (λ (u : TermData). bytes_eq u.term bytes ≡ false)
    (λ u rise. bytes_flipped bytes u.term (subst (λ (x : List ℕ). bytes_eq x u.term ≡ false) (bytes_same t.term bytes own) (bytes_apart t.term u.term rise))) terms rises)

module _ (bytes : List ℕ) where
  term_at : (x : TermData) (xs : List TermData) → Pairs RisesTo (x ∷ xs)
      → ((ys : List TermData) → Pairs RisesTo ys → segments_of bytes (merged_terms xs ys) ≡ merged_segments (segments_of bytes xs) (segments_of bytes ys))
      → (ys : List TermData) → Pairs RisesTo ys → segments_of bytes (merged_terms (x ∷ xs) ys) ≡ merged_segments (segments_of bytes (x ∷ xs)) (segments_of bytes ys)
  term_at x xs h more [] k = sym (none_behind segment_cmp joined_segment (segments_of bytes (x ∷ xs)))
  term_at x xs h more (y ∷ ys) k = by_rank (λ (l : List TermData). segments_of bytes l ≡ merged_segments (segments_of bytes (x ∷ xs)) (segments_of bytes (y ∷ ys))) (term_cmp x y) _ _ _ when_less when_equal (when_greater (term_at x xs h more ys k.1))
    where
      when_less : term_cmp x y ≡ Less → segments_of bytes (x ∷ merged_terms xs (y ∷ ys)) ≡ merged_segments (segments_of bytes (x ∷ xs)) (segments_of bytes (y ∷ ys))
      when_less less = elim (cases_Bool (bytes_eq x.term bytes)) [
        | inl own ↦
            let rise : BytesRise x.term y.term = ap is_lt less in
            let none : segments_of bytes (y ∷ ys) ≡ [] = later_others bytes x (y ∷ ys) own (rise, all_weaker (RisesTo y) (RisesTo x) (λ z on. bytes_rise_on x.term y.term z.term rise on) ys k.0) in
            rw own (sym (none_behind segment_cmp joined_segment x.segments) ∙ ap (merged_segments x.segments) (sym none))
        | inr other ↦ rw other (more (y ∷ ys) k)
      ]

      when_equal : term_cmp x y ≡ Equal → segments_of bytes (joined_term x y ∷ merged_terms xs ys) ≡ merged_segments (segments_of bytes (x ∷ xs)) (segments_of bytes (y ∷ ys))
      when_equal tie = elim (cases_Bool (bytes_eq x.term bytes)) [
        | inl own ↦ let theirs : bytes_eq y.term bytes ≡ true = subst (λ (t : List ℕ). bytes_eq t bytes ≡ true) (same_bytes x y tie) own in rw (own, theirs) refl
        | inr other ↦ let theirs : bytes_eq y.term bytes ≡ false = subst (λ (t : List ℕ). bytes_eq t bytes ≡ false) (same_bytes x y tie) other in rw (other, theirs) (more ys k.1)
      ]

      when_greater : segments_of bytes (merged_terms (x ∷ xs) ys) ≡ merged_segments (segments_of bytes (x ∷ xs)) (segments_of bytes ys) → term_cmp x y ≡ Greater → segments_of bytes (y ∷ merged_terms (x ∷ xs) ys) ≡ merged_segments (segments_of bytes (x ∷ xs)) (segments_of bytes (y ∷ ys))
      when_greater rest greater = elim (cases_Bool (bytes_eq y.term bytes)) [
        | inl own ↦
            let rise : BytesRise y.term x.term = bytes_fall x.term y.term greater in
            let none : segments_of bytes (x ∷ xs) ≡ [] = later_others bytes y (x ∷ xs) own (rise, all_weaker (RisesTo x) (RisesTo y) (λ z on. bytes_rise_on y.term x.term z.term rise on) xs h.0) in
            rw own (ap (λ (l : List SegmentData). merged_segments l y.segments) (sym none))
        | inr other ↦ rw other rest
      ]

  pub segments_merged : (xs ys : List TermData) → Pairs RisesTo xs → Pairs RisesTo ys → segments_of bytes (merged_terms xs ys) ≡ merged_segments (segments_of bytes xs) (segments_of bytes ys)
  segments_merged [] ys h k = refl
  segments_merged (x ∷ xs) ys h k = term_at x xs h (λ zs. segments_merged xs zs h.1) ys k

  raised_segments_of : (base : ℕ) (terms : List TermData) → segments_of bytes (map (raised_term base) terms) ≡ map (raised_segment base) (segments_of bytes terms)
  raised_segments_of base [] = refl
  raised_segments_of base (t ∷ terms) = elim (cases_Bool (bytes_eq t.term bytes)) [ inl own ↦ rw own refl | inr other ↦ rw other (raised_segments_of base terms) ]

  pub union_has_segments : (base : ℕ) (parts : List IndexData) → AllByRecursion IsWellFormed parts → segments_of bytes (union_terms base parts) ≡ union_segments bytes base parts
  union_has_segments base [] are = refl
  union_has_segments base (p ∷ parts) are =
      let later = base + length p.names in
      segments_merged (map (raised_term base) p.terms) (union_terms later parts) (pairs_map RisesTo (raised_term base) p.terms (pairs_by_recursion RisesTo p.terms are.0.rising)) (union_rises later parts are.1)
      ∙ ap₂ merged_segments (raised_segments_of base p.terms) (union_has_segments later parts are.1)

-- ---- the documents of an impact

-- an impact above all of these
no_docs : (impact : ℕ) (segments : List SegmentData) → AllByRecursion (λ (s : SegmentData). s.impact < impact) segments → docs_of impact segments ≡ []
no_docs impact [] below = refl
no_docs impact (s ∷ segments) below = let other : (s.impact == impact) ≡ false = ne_eqb s.impact impact (λ same. absurd (omega (arith, same, below.0))) in rw other (no_docs impact segments below.1)

module _ (impact : ℕ) where
  segment_at : (x : SegmentData) (xs : List SegmentData) → Pairs FallsTo (x ∷ xs)
      → ((ys : List SegmentData) → Pairs FallsTo ys → docs_of impact (merged_segments xs ys) ≡ docs_of impact xs ++ docs_of impact ys)
      → (ys : List SegmentData) → Pairs FallsTo ys → docs_of impact (merged_segments (x ∷ xs) ys) ≡ docs_of impact (x ∷ xs) ++ docs_of impact ys
  segment_at x xs h more [] k = sym (append-nil (docs_of impact (x ∷ xs)))
  segment_at x xs h more (y ∷ ys) k = by_rank (λ (l : List SegmentData). docs_of impact l ≡ docs_of impact (x ∷ xs) ++ docs_of impact (y ∷ ys)) (segment_cmp x y) _ _ _ when_less when_equal (when_greater (segment_at x xs h more ys k.1))
    where
      less_is : (m n : ℕ) → nat_cmp m n ≡ Less → m < n
      less_is m n is = grind (arith, nat_tests, is)

      greater_is : (m n : ℕ) → nat_cmp m n ≡ Greater → n < m
      greater_is m n is = grind (arith, nat_tests, is)

      when_less : segment_cmp x y ≡ Less → docs_of impact (x ∷ merged_segments xs (y ∷ ys)) ≡ docs_of impact (x ∷ xs) ++ docs_of impact (y ∷ ys)
      when_less less = elim (cases_Bool (x.impact == impact)) [
        | inl own ↦
            let same : x.impact ≡ impact = eqb-true x.impact impact own in
            let falls : y.impact < x.impact = less_is y.impact x.impact less in
            let none : docs_of impact (y ∷ ys) ≡ [] = no_docs impact (y ∷ ys) (omega (arith, falls, same), all_weaker (FallsTo y) (λ (s : SegmentData). s.impact < impact) (λ s l. omega (arith, l, falls, same)) ys k.0) in
            rw own (sym (append-nil x.docs) ∙ ap (λ (l : List ℕ). x.docs ++ l) (sym none))
        | inr other ↦ rw other (more (y ∷ ys) k)
      ]

      when_equal : segment_cmp x y ≡ Equal → docs_of impact (joined_segment x y ∷ merged_segments xs ys) ≡ docs_of impact (x ∷ xs) ++ docs_of impact (y ∷ ys)
      when_equal tie = elim (cases_Bool (x.impact == impact)) [
        | inl own ↦ let theirs : (y.impact == impact) ≡ true = subst (λ (n : ℕ). (n == impact) ≡ true) (sym (nat_cmp-IsAntisymmetric y.impact x.impact tie)) own in rw (own, theirs) refl
        | inr other ↦ let theirs : (y.impact == impact) ≡ false = subst (λ (n : ℕ). (n == impact) ≡ false) (sym (nat_cmp-IsAntisymmetric y.impact x.impact tie)) other in rw (other, theirs) (more ys k.1)
      ]

      when_greater : docs_of impact (merged_segments (x ∷ xs) ys) ≡ docs_of impact (x ∷ xs) ++ docs_of impact ys → segment_cmp x y ≡ Greater → docs_of impact (y ∷ merged_segments (x ∷ xs) ys) ≡ docs_of impact (x ∷ xs) ++ docs_of impact (y ∷ ys)
      when_greater rest greater = elim (cases_Bool (y.impact == impact)) [
        | inl own ↦
            let same : y.impact ≡ impact = eqb-true y.impact impact own in
            let falls : x.impact < y.impact = greater_is y.impact x.impact greater in
            let none : docs_of impact (x ∷ xs) ≡ [] = no_docs impact (x ∷ xs) (omega (arith, falls, same), all_weaker (FallsTo x) (λ (s : SegmentData). s.impact < impact) (λ s l. omega (arith, l, falls, same)) xs h.0) in
            rw own (ap (λ (l : List ℕ). l ++ y.docs) (sym none))
        | inr other ↦ rw other rest
      ]

  pub docs_merged : (xs ys : List SegmentData) → Pairs FallsTo xs → Pairs FallsTo ys → docs_of impact (merged_segments xs ys) ≡ docs_of impact xs ++ docs_of impact ys
  docs_merged [] ys h k = refl
  docs_merged (x ∷ xs) ys h k = segment_at x xs h (λ zs. docs_merged xs zs h.1) ys k

  raised_docs_of : (base : ℕ) (segments : List SegmentData) → docs_of impact (map (raised_segment base) segments) ≡ map (λ d. base + d) (docs_of impact segments)
  raised_docs_of base [] = refl
  raised_docs_of base (s ∷ segments) = elim (cases_Bool (s.impact == impact)) [ inl own ↦ rw own refl | inr other ↦ rw other (raised_docs_of base segments) ]

  module _ (bytes : List ℕ) where
    segments_fall : (d : ℕ) (terms : List TermData) → AllByRecursion (IsTerm d) terms → Pairs FallsTo (segments_of bytes terms)
    segments_fall d [] are = tt
    segments_fall d (t ∷ terms) are = elim (cases_Bool (bytes_eq t.term bytes)) [ inl own ↦ rw own (pairs_by_recursion FallsTo t.segments are.0.falling) | inr other ↦ rw other (segments_fall d terms are.1) ]

    raised_fall : (base : ℕ) (p : IndexData) → IsWellFormed p → Pairs FallsTo (map (raised_segment base) (segments_of bytes p.terms))
    raised_fall base p is = pairs_map FallsTo (raised_segment base) (segments_of bytes p.terms) (segments_fall (length p.names) p.terms (recursion_from_All (IsTerm (length p.names)) p.terms is.terms))

    union_falls : (base : ℕ) (parts : List IndexData) → AllByRecursion IsWellFormed parts → Pairs FallsTo (union_segments bytes base parts)
    union_falls base [] are = tt
    union_falls base (p ∷ parts) are = falls_merged (map (raised_segment base) (segments_of bytes p.terms)) (union_segments bytes (base + length p.names) parts) (raised_fall base p are.0) (union_falls (base + length p.names) parts are.1)

    pub union_has_docs : (base : ℕ) (parts : List IndexData) → AllByRecursion IsWellFormed parts → docs_of impact (union_segments bytes base parts) ≡ union_docs bytes impact base parts
    union_has_docs base [] are = refl
    union_has_docs base (p ∷ parts) are =
        let later = base + length p.names in
        docs_merged (map (raised_segment base) (segments_of bytes p.terms)) (union_segments bytes later parts) (raised_fall base p are.0) (union_falls later parts are.1)
        ∙ ap₂ (λ (x y : List ℕ). x ++ y) (raised_docs_of base (segments_of bytes p.terms)) (union_has_docs later parts are.1)

-- ---- the bytes of the terms, and the impacts of a term

raised_texts : (base : ℕ) (terms : List TermData) → map (λ (t : TermData). t.term) (map (raised_term base) terms) ≡ map (λ (t : TermData). t.term) terms
raised_texts base terms = map-map (λ (t : TermData). t.term) (raised_term base) terms

raised_impacts : (base : ℕ) (segments : List SegmentData) → map (λ (s : SegmentData). s.impact) (map (raised_segment base) segments) ≡ map (λ (s : SegmentData). s.impact) segments
raised_impacts base segments = map-map (λ (s : SegmentData). s.impact) (raised_segment base) segments

pub union_has_texts : (base : ℕ) (parts : List IndexData) → map (λ (t : TermData). t.term) (union_terms base parts) ≡ union_texts parts
union_has_texts base [] = refl
union_has_texts base (p ∷ parts) =
    let later = base + length p.names in
    keys_merged (λ (t : TermData). t.term) (slice_cmp nat_cmp) joined_term (λ s t. refl) (map (raised_term base) p.terms) (union_terms later parts)
    ∙ ap₂ (merged (slice_cmp nat_cmp) (λ (text again : List ℕ). text)) (raised_texts base p.terms) (union_has_texts later parts)

pub union_has_impacts : (bytes : List ℕ) (base : ℕ) (parts : List IndexData) → map (λ (s : SegmentData). s.impact) (union_segments bytes base parts) ≡ union_impacts bytes parts
union_has_impacts bytes base [] = refl
union_has_impacts bytes base (p ∷ parts) =
    let later = base + length p.names in
    keys_merged (λ (s : SegmentData). s.impact) (λ m n. nat_cmp n m) joined_segment (λ s t. refl) (map (raised_segment base) (segments_of bytes p.terms)) (union_segments bytes later parts)
    ∙ ap₂ (merged (λ m n. nat_cmp n m) (λ (impact again : ℕ). impact)) (raised_impacts base (segments_of bytes p.terms)) (union_has_impacts bytes later parts)

-- ---- a term by its number

pub numbered_segments : (terms : List TermData) (number : ℕ) (bytes : List ℕ) → Pairs RisesTo terms → slice_get (map (λ (t : TermData). t.term) terms) number ≡ Some bytes → segments_of bytes terms ≡ segments_at terms number
numbered_segments [] number bytes rises at = absurd cc
numbered_segments (t ∷ terms) zero bytes rises at = let own : bytes_eq t.term bytes ≡ true = first at in rw own refl where
  first : Some t.term ≡ Some bytes → bytes_eq t.term bytes ≡ true
  first is = subst (λ (b : List ℕ). bytes_eq t.term b ≡ true) (let same : t.term ≡ bytes = cc in same) (bytes_itself t.term)
numbered_segments (t ∷ terms) (suc number) bytes rises at =
    elim (cases_Bool (bytes_eq t.term bytes)) [
      | inl own ↦ absurd (never terms number rises.0 at own)
      | inr other ↦ rw other (numbered_segments terms number bytes rises.1 at)
    ]
  where
    never : (terms : List TermData) (number : ℕ) → AllByRecursion (RisesTo t) terms → slice_get (map (λ (t : TermData). t.term) terms) number ≡ Some bytes → bytes_eq t.term bytes ≡ true → ⊥
    never [] number rises at own = cc
    never (u ∷ terms) zero rises at own = let same : u.term ≡ bytes = cc in let apart = bytes_apart t.term u.term rises.0 in let mine = subst (λ (b : List ℕ). bytes_eq t.term b ≡ true) (sym same) own in let clash = sym apart ∙ mine in cc
    never (u ∷ terms) (suc number) rises at own = never terms number rises.1 at own

pub missing_segments : (terms : List TermData) (bytes : List ℕ) → ¬ Contains (map (λ (t : TermData). t.term) terms) bytes → segments_of bytes terms ≡ []
missing_segments terms bytes never = none_of bytes terms (others terms (λ inside. never (contains_from_in (map (λ (t : TermData). t.term) terms) bytes inside))) where
  others : (terms : List TermData) → ¬ In bytes (map (λ (t : TermData). t.term) terms) → AllByRecursion (λ (t : TermData). bytes_eq t.term bytes ≡ false) terms
  others [] never = tt
  others (t ∷ terms) never = (false_from_ne_true (bytes_eq t.term bytes) (λ same. never (inl (sym (bytes_same t.term bytes same)))), others terms (λ there. never (inr there)))

-- ---- a segment by its place

pub placed_docs : (segments : List SegmentData) (place : ℕ) (segment : SegmentData) → Pairs FallsTo segments → slice_get segments place ≡ Some segment → docs_of segment.impact segments ≡ segment.docs
placed_docs [] place segment falls at = absurd cc
placed_docs (s ∷ segments) zero segment falls at =
    let same : s ≡ segment = cc in
    let own : (s.impact == segment.impact) ≡ true = eq-eqb s.impact segment.impact (ap (λ (x : SegmentData). x.impact) same) in
    rw own (ap (λ (x : SegmentData). x.docs) same)
placed_docs (s ∷ segments) (suc place) segment falls at =
    let lower : segment.impact < s.impact = behind segments place falls.0 at in
    let other : (s.impact == segment.impact) ≡ false = ne_eqb s.impact segment.impact (λ same. absurd (omega (arith, same, lower))) in
    rw other (placed_docs segments place segment falls.1 at)
  where
    behind : (segments : List SegmentData) (place : ℕ) → AllByRecursion (FallsTo s) segments → slice_get segments place ≡ Some segment → segment.impact < s.impact
    behind [] place falls at = absurd cc
    behind (t ∷ segments) zero falls at = let same : t ≡ segment = cc in subst (λ (x : SegmentData). x.impact < s.impact) same falls.0
    behind (t ∷ segments) (suc place) falls at = behind segments place falls.1 at

pub numbered_fall : (d : ℕ) (terms : List TermData) (number : ℕ) → AllByRecursion (IsTerm d) terms → Pairs FallsTo (segments_at terms number)
numbered_fall d [] number are = tt
numbered_fall d (t ∷ terms) zero are = pairs_by_recursion FallsTo t.segments are.0.falling
numbered_fall d (t ∷ terms) (suc number) are = numbered_fall d terms number are.1

pub missing_docs : (segments : List SegmentData) (impact : ℕ) → ¬ Contains (map (λ (s : SegmentData). s.impact) segments) impact → docs_of impact segments ≡ []
missing_docs segments impact never = others segments (λ inside. never (contains_from_in (map (λ (s : SegmentData). s.impact) segments) impact inside)) where
  others : (segments : List SegmentData) → ¬ In impact (map (λ (s : SegmentData). s.impact) segments) → docs_of impact segments ≡ []
  others [] never = refl
  others (s ∷ segments) never =
      let other : (s.impact == impact) ≡ false = ne_eqb s.impact impact (λ same. never (inl (sym same))) in
      rw other (others segments (λ there. never (inr there)))

-- ---- how many postings

union_length : (base : ℕ) (parts : List IndexData) → length (union_entries base parts) ≡ sum_by (λ (p : IndexData). length (flat_of p)) parts
union_length base [] = refl
union_length base (p ∷ parts) =
    length-append (raised_entries base (flat_of p)) (union_entries (base + length p.names) parts)
    ∙ ap₂ (λ (m n : ℕ). m + n) (length-map (flat_of p) (λ (e : Entry (List ℕ)). record { term = e.term; doc = base + e.doc; impact = e.impact })) (union_length (base + length p.names) parts)
    ∙ sym (sum_by-cons (λ (p : IndexData). length (flat_of p)) p parts)

pub union_entries_again : (parts : List IndexData) → flat_of (union_of parts) ≡ sorted (entry_cmp (slice_cmp nat_cmp)) (union_entries 0 parts)
unfolding union_of
union_entries_again parts = flat_again (union_names parts) (sorted (entry_cmp (slice_cmp nat_cmp)) (union_entries 0 parts))

pub union_postings : (parts : List IndexData) → length (flat_of (union_of parts)) ≡ sum_by (λ (p : IndexData). length (flat_of p)) parts
union_postings parts =
    ap (λ (l : List (Entry (List ℕ))). length l) (union_entries_again parts)
    ∙ length_sorted (entry_cmp (slice_cmp nat_cmp)) (union_entries 0 parts)
    ∙ union_length 0 parts

names_length : (parts : List IndexData) → length (union_names parts) ≡ sum_by (λ (p : IndexData). length p.names) parts
names_length [] = refl
names_length (p ∷ parts) = length-append p.names (union_names parts) ∙ ap (λ (n : ℕ). length p.names + n) (names_length parts) ∙ sym (sum_by-cons (λ (p : IndexData). length p.names) p parts)

pub union_documents : (parts : List IndexData) → length (union_of parts).names ≡ sum_by (λ (p : IndexData). length p.names) parts
unfolding union_of index_with
union_documents parts = names_length parts

-- the same by terms and segments

term_size : TermData → ℕ
term_size t = sum_by (λ (s : SegmentData). length s.docs) t.segments

segments_size : (term : List ℕ) (segments : List SegmentData) → length (term_entries term segments) ≡ sum_by (λ (s : SegmentData). length s.docs) segments
segments_size term [] = refl
segments_size term (s ∷ segments) =
    length-append (segment_entries term s) (term_entries term segments)
    ∙ ap₂ (λ (m n : ℕ). m + n) (length-map s.docs (λ (doc : ℕ). record { term = term; doc = doc; impact = s.impact })) (segments_size term segments)
    ∙ sym (sum_by-cons (λ (s : SegmentData). length s.docs) s segments)

terms_size : (terms : List TermData) → length (flat_of_terms terms) ≡ sum_by term_size terms
unfolding term_size
terms_size [] = refl
terms_size (t ∷ terms) =
    length-append (term_entries t.term t.segments) (flat_of_terms terms)
    ∙ ap₂ (λ (m n : ℕ). m + n) (segments_size t.term t.segments) (terms_size terms)
    ∙ sym (sum_by-cons term_size t terms)

parts_size : (parts : List IndexData) → sum_by (λ (p : IndexData). length (flat_of p)) parts ≡ sum_by (λ (p : IndexData). sum_by term_size p.terms) parts
parts_size [] = refl
parts_size (p ∷ parts) =
    sum_by-cons (λ (p : IndexData). length (flat_of p)) p parts
    ∙ ap₂ (λ (m n : ℕ). m + n) (terms_size p.terms) (parts_size parts)
    ∙ sym (sum_by-cons (λ (p : IndexData). sum_by term_size p.terms) p parts)

pub union_sizes : (parts : List IndexData)
    → sum_by (λ (t : TermData). sum_by (λ (s : SegmentData). length s.docs) t.segments) (union_of parts).terms ≡ sum_by (λ (p : IndexData). sum_by (λ (t : TermData). sum_by (λ (s : SegmentData). length s.docs) t.segments) p.terms) parts
unfolding term_size
union_sizes parts = sym (terms_size (union_of parts).terms) ∙ union_postings parts ∙ parts_size parts
