-- A term's segments from its list, and the terms from the lists.
use Rattle.shared_lemmas.proofs.Common.{◌≡◌, ℕ, ◌+◌, ◌<◌, ◌≤◌, max, List, [], ◌∷◌, ◌++◌, map, length, get_or, drop, refl, sym, ap, ap₂, ◌∙◌, subst, arith, append-nil, append_assoc, All, AllByRecursion, flat_map, nat_cmp, slice_cmp, nat_list_cmp_total, tied_itself, sum_by, length-append, length-map, sum_by-cons}
use Rattle.shared_lemmas.proofs.Common.{map-append, get_or-map, drop_more, All-from_recursion, All-push, map-map}
use Rattle.std.proofs.lemmas.List.Concat.{flat_map-append}
use Rattle.shared_lemmas.proofs.Pairs.{Pairs, pairs_by_recursion}
use Rattle.shared_lemmas.proofs.Lists.{all_weaker, all_unmap, all_parts}
use denote.Ref.{Bor}
use Rattle.impact_segments.proofs.Below.{DocRecord, Posting, PostingsList, Segment, TermSegments, FallsTo, HasTermBelow, greatest_of, greatest_impact, Rule, Bits, Range, impact_of, Entry, sorted, entry_cmp, all_sorted, length_sorted, sorted_map}
use Rattle.impact_segments.specs.Private.Weighed.{posting_weight, list_entries}
use Rattle.impact_segments.specs.Private.Held.{term_entries, flat_of_terms}
use Rattle.impact_segments.specs.Private.Listed.{lists_behind}
use Rattle.impact_segments.specs.Pairs.{pair_cmp, pairs_of, with_impact}
use Rattle.impact_segments.specs.Private.Pairs.{list_pairs}
use Rattle.impact_segments.specs.declared.doc_impact.DocImpact.{DocImpact}
use Rattle.impact_segments.proofs.OneList.{pair_is, pairs_more, positive_more}

pub all_map_at : {A B : Type 0} (P : B → Type 0) (f : A → B) (xs : List A) (i : ℕ) (d : A) → i < length xs → All P (map f xs) → P (f (get_or xs i d))
all_map_at P f xs i d low h = let inside : i < length (map f xs) = rw length-map low in subst P (get_or-map f xs i d (f d) low) (h i (f d) inside)

-- ---- the pairs of a list

module _ (rule : Rule) (docs : List DocRecord) (bits : Bits) (range : Range) (list : PostingsList) where
  abbrev pub impact_by : Posting → ℕ
  impact_by p = impact_of bits range (posting_weight rule docs list p)

  abbrev pub pair_of : Posting → DocImpact
  pair_of p = record { doc = p.doc; impact = impact_by p }

  -- the pairs so far, and those of the postings that are left
  pub record Paired (pairs : List DocImpact) (rest : List Posting) : Type 0 where
    pub value : pairs ++ map pair_of rest ≡ list_pairs rule docs bits range list
    pub positive : All (λ (p : DocImpact). 1 ≤ p.impact) pairs

  pub paired_more : (pairs longer : List DocImpact) (items : List Posting) (i : ℕ) (d : Posting) (impact w : ℕ) → i < length items → longer ≡ pairs ++ with_impact impact (get_or items i d).doc ∷ []
      → impact ≡ impact_of bits range w → w ≡ posting_weight rule docs list (get_or items i d) → 1 ≤ impact → Paired pairs (drop i items) → Paired longer (drop (i + 1) items)
  paired_more pairs longer items i d impact w low is value weight positive paired =
      let p : Posting = get_or items i d in
      record {
        value = pairs_more pair_of pairs longer (list_pairs rule docs bits range list) items i d (with_impact impact p.doc) low is (pair_is bits range p.doc impact w (posting_weight rule docs list p) value weight) paired.value;
        positive = positive_more pairs longer p.doc impact is positive paired.positive;
      }

-- ---- the segments of pairs, in whatever form they are held

module _ {S : Type 0} (impact : S → ℕ) (docs : S → List ℕ) where
  abbrev held : List S → List DocImpact
  held segments = flat_map (λ (s : S). map (with_impact (impact s)) (docs s)) segments

  as_many_held : (segments : List S) → sum_by (λ (s : S). length (docs s)) segments ≡ length (held segments)
  as_many_held [] = refl
  as_many_held (s ∷ ss) =
      let both = length-append (map (with_impact (impact s)) (docs s)) (held ss) in
      omega (arith, sum_by-cons (λ (s : S). length (docs s)) s ss, both, length-map (docs s) (with_impact (impact s)), as_many_held ss)

  pub as_many_documents : (segments : List S) (pairs : List DocImpact) → held segments ≡ sorted pair_cmp pairs → sum_by (λ (s : S). length (docs s)) segments ≡ length pairs
  as_many_documents segments pairs is = as_many_held segments ∙ ap length is ∙ length_sorted pair_cmp pairs

  pub some_segments : (segments : List S) (pairs : List DocImpact) → held segments ≡ sorted pair_cmp pairs → 1 ≤ length pairs → 1 ≤ length segments
  some_segments [] pairs is some = let none : 0 ≡ length (sorted pair_cmp pairs) = ap length is in let all = length_sorted pair_cmp pairs in absurd (omega (arith, none, all, some))
  some_segments (s ∷ ss) pairs is some = omega arith

  pub segments_below : (d : ℕ) (segments : List S) (pairs : List DocImpact) → held segments ≡ sorted pair_cmp pairs → AllByRecursion (λ (p : DocImpact). p.doc < d) pairs → All (λ (s : S). All (λ doc. doc < d) (docs s)) segments
  segments_below d segments pairs is below =
      let P : List DocImpact → Type 0 = λ (l : List DocImpact). AllByRecursion (λ (p : DocImpact). p.doc < d) l in
      let Q : S → Type 0 = λ (s : S). AllByRecursion (λ (p : DocImpact). p.doc < d) (map (with_impact (impact s)) (docs s)) in
      let each : AllByRecursion Q segments = all_parts (λ (p : DocImpact). p.doc < d) (λ (s : S). map (with_impact (impact s)) (docs s)) segments (subst P (sym is) (all_sorted pair_cmp (λ (p : DocImpact). p.doc < d) pairs below)) in
      All-from_recursion (λ (s : S). All (λ doc. doc < d) (docs s)) segments (all_weaker Q (λ (s : S). All (λ doc. doc < d) (docs s))
      (λ s h. All-from_recursion (λ (doc : ℕ). doc < d) (docs s) (all_unmap (λ (p : DocImpact). p.doc < d) (with_impact (impact s)) (docs s) h)) segments each)

abbrev pub under : List ℕ → DocImpact → Entry (List ℕ)
under t p = record { term = t; doc = p.doc; impact = p.impact }

under_pairs : (t : List ℕ) (segments : List Segment) → term_entries t segments ≡ map (under t) (pairs_of segments)
under_pairs t [] = refl
under_pairs t (s ∷ ss) =
    ap₂ (λ (x y : List (Entry (List ℕ))). x ++ y) (sym (map-map (under t) (with_impact s.impact) s.docs)) (under_pairs t ss)
    ∙ sym (map-append (under t) (map (with_impact s.impact) s.docs) (pairs_of ss))

pub same_order : (t : List ℕ) (p q : DocImpact) → entry_cmp (slice_cmp nat_cmp) (under t p) (under t q) ≡ pair_cmp p q
same_order t p q = let e = tied_itself nat_list_cmp_total t in rw e refl

pub term_is : (rule : Rule) (docs : List DocRecord) (bits : Bits) (range : Range) (list : PostingsList) (t : List ℕ) (segments : List Segment) (pairs : List DocImpact) → t ≡ list.term → pairs ≡ list_pairs rule docs bits range list
    → pairs_of segments ≡ sorted pair_cmp pairs → term_entries t segments ≡ sorted (entry_cmp (slice_cmp nat_cmp)) (list_entries rule docs bits range list)
term_is rule docs bits range list t segments pairs same is grouped =
    under_pairs t segments
    ∙ ap (map (under t)) grouped
    ∙ sym (sorted_map (under t) pair_cmp (entry_cmp (slice_cmp nat_cmp)) (same_order t) pairs)
    ∙ ap (λ (l : List (Entry (List ℕ))). sorted (entry_cmp (slice_cmp nat_cmp)) l)
    (ap (map (under t)) is ∙ map-map (under t) (pair_of rule docs bits range list) list.postings ∙ ap (λ (s : List ℕ). map (λ (p : Posting). under s (pair_of rule docs bits range list p)) list.postings) same)

-- ---- all terms

-- the terms so far, of the lists in front of those that are left
pub record Built (entries : PostingsList → List (Entry (List ℕ))) (docs : ℕ) (all : List (Bor PostingsList)) (terms : List TermSegments) (rest : List (Bor PostingsList)) : Type 0 where
  pub texts : map (λ (t : TermSegments). t.term) terms ++ map (λ (l : PostingsList). l.term) (lists_behind rest) ≡ map (λ (l : PostingsList). l.term) (lists_behind all)
  pub flat : flat_of_terms terms ++ flat_map entries (lists_behind rest) ≡ flat_map entries (lists_behind all)
  pub below : All (HasTermBelow docs) terms

pub built_more : (entries : PostingsList → List (Entry (List ℕ))) (docs : ℕ) (all : List (Bor PostingsList)) (terms : List TermSegments) (t : TermSegments) (i : ℕ) (r : Bor PostingsList)
    → i < length all → r ≡ get_or all i r → t.term ≡ r.now.term → term_entries t.term t.segments ≡ entries r.now → HasTermBelow docs t
    → Built entries docs all terms (drop i all) → Built entries docs all (terms ++ t ∷ []) (drop (i + 1) all)
built_more entries docs all terms t i r low at text its below built =
    let P : List (Bor PostingsList) → Type 0 = λ (l : List (Bor PostingsList)). Built entries docs all terms l in
    step (subst P (drop_more all i r low ∙ ap (λ (x : Bor PostingsList). x ∷ drop (i + 1) all) (sym at)) built)
  where
    step : Built entries docs all terms (r ∷ drop (i + 1) all) → Built entries docs all (terms ++ t ∷ []) (drop (i + 1) all)
    step b = record {
      texts = ap (λ (l : List (List ℕ)). l ++ map (λ (l : PostingsList). l.term) (lists_behind (drop (i + 1) all))) (map-append (λ (t : TermSegments). t.term) terms (t ∷ []))
          ∙ append_assoc (map (λ (t : TermSegments). t.term) terms) (t.term ∷ []) (map (λ (l : PostingsList). l.term) (lists_behind (drop (i + 1) all)))
          ∙ ap (λ (s : List ℕ). map (λ (t : TermSegments). t.term) terms ++ s ∷ map (λ (l : PostingsList). l.term) (lists_behind (drop (i + 1) all))) text
          ∙ b.texts;
      flat = ap (λ (l : List (Entry (List ℕ))). l ++ flat_map entries (lists_behind (drop (i + 1) all)))
          (flat_map-append (λ (t : TermSegments). term_entries t.term t.segments) terms (t ∷ []) ∙ ap (λ (l : List (Entry (List ℕ))). flat_of_terms terms ++ l) (append-nil (term_entries t.term t.segments) ∙ its))
          ∙ append_assoc (flat_of_terms terms) (entries r.now) (flat_map entries (lists_behind (drop (i + 1) all)))
          ∙ b.flat;
      below = All-push (HasTermBelow docs) terms t b.below below;
    }

-- ---- the greatest impact

low_greatest : (top : ℕ) (segments : List Segment) → AllByRecursion (λ (s : Segment). s.impact < top) segments → greatest_of segments ≤ top
low_greatest top [] h = omega arith
low_greatest top (s ∷ ss) h = let rest : greatest_of ss ≤ top = low_greatest top ss h.1 in omega (arith, h.0, rest)

greatest_first : (segments : List Segment) (d : Segment) → 1 ≤ length segments → Pairs FallsTo segments → greatest_of segments ≡ (get_or segments 0 d).impact
greatest_first [] d some h = absurd (omega arith)
greatest_first (s ∷ ss) d some h = let rest : greatest_of ss ≤ s.impact = low_greatest s.impact ss h.0 in omega (arith, rest)

pub greatest_more : (terms : List TermSegments) (i : ℕ) (t : TermSegments) (first : Segment) (greatest : ℕ) → i < length terms → t ≡ get_or terms i t → first ≡ get_or t.segments 0 first
    → max greatest (greatest_impact (drop i terms)) ≡ greatest_impact terms → max (max first.impact greatest) (greatest_impact (drop (i + 1) terms)) ≡ greatest_impact terms
greatest_more terms i t first greatest low at is so_far =
    let split : drop i terms ≡ t ∷ drop (i + 1) terms = drop_more terms i t low ∙ ap (λ (x : TermSegments). x ∷ drop (i + 1) terms) (sym at) in
    let own : greatest_of t.segments ≡ first.impact = greatest_first t.segments first t.some (pairs_by_recursion FallsTo t.segments t.falling) ∙ ap (λ (s : Segment). s.impact) (sym is) in
    let opened : greatest_impact (drop i terms) ≡ max (greatest_of t.segments) (greatest_impact (drop (i + 1) terms)) = ap greatest_impact split in
    omega (arith, own, opened, so_far)
