-- The heads of a query's segments, arranged, name the segments of its plan.
use Rattle.shared_lemmas.proofs.Common.{◌≡◌, ℕ, zero, suc, ◌+◌, ◌*◌, ◌<◌, ◌≤◌, List, [], ◌∷◌, ◌++◌, map, length, get_or, refl, sym, ap, ap₂, ◌∙◌, subst, arith, inl, All, AllByRecursion, nat_cmp, ordering_then, map-append, All-from_recursion, recursion_from_All}
use Rattle.session_engine.proofs.Below.{QueryTerm, PlanSegment, sorted, plan_cmp, AreTerms, SegmentData, TermData, IndexData, IsSegment, IsTerm, IsWellFormed, FallsTo, segments_at, query_segments_at, query_segments_from, query_segments, term_kept, PlanEntry, PlanHead, AreHeads, Fall, entry_of}
use Rattle.session_engine.proofs.Below.{entry_cmp, plan_with, shape, entry_shape, all_sorted, sorted_map_where}
use Rattle.shared_lemmas.proofs.Pairs.{Pairs, pairs_by_places, pairs_append}
use Rattle.shared_lemmas.proofs.Lists.{all_weaker, all_append}
use Rattle.session_engine.specs.Plans.{NamesSegment, segment_named, docs_named, heads_at, heads_from, query_heads}

-- ---- the entries of a term's segments

abbrev Suffix : {A : Type 0} → List A → ℕ → List A → Type 0
Suffix {A} all at xs = (i : ℕ) (d : A) → get_or all (at + i) d ≡ get_or xs i d

first_of : {A : Type 0} (all : List A) (at : ℕ) (x : A) (xs : List A) (d : A) → Suffix all at (x ∷ xs) → get_or all at d ≡ x
first_of all at x xs d rest = let e : at + 0 ≡ at = omega arith in ap (λ n. get_or all n d) (sym e) ∙ rest 0 d

rest_of : {A : Type 0} (all : List A) (at : ℕ) (x : A) (xs : List A) → Suffix all at (x ∷ xs) → Suffix all (suc at) xs
rest_of all at x xs rest i d = let e : suc at + i ≡ at + suc i = omega arith in ap (λ n. get_or all n d) e ∙ rest (suc i) d

abbrev no_term : QueryTerm
no_term = record { term = 0; times = 0 }

abbrev no_segment : SegmentData
no_segment = record { impact = 0; docs = [] }

abbrev head_of : ℕ → ℕ → SegmentData → PlanHead
head_of term_place segment s = record { term_place = term_place; segment = segment; impact = s.impact; count = length s.docs }

module _ (index : IndexData) (all : List QueryTerm) where
  abbrev Names : PlanEntry → Type 0
  Names e = NamesSegment index all e

  abbrev named_by : PlanEntry → PlanSegment
  named_by e = segment_named index all e

  abbrev entry : PlanHead → PlanEntry
  entry h = entry_of all h

  docs_are : (term_place seg : ℕ) (named : QueryTerm) (s : SegmentData) → get_or all term_place no_term ≡ named → get_or (segments_at index.terms named.term) seg no_segment ≡ s
      → docs_named index all (entry (head_of term_place seg s)) ≡ s.docs
  docs_are term_place seg named s is at = ap (λ (n : QueryTerm). (get_or (segments_at index.terms n.term) seg no_segment).docs) is ∙ ap (λ (s : SegmentData). s.docs) at

  segment_is : (term_place seg : ℕ) (named : QueryTerm) (s : SegmentData) → get_or all term_place no_term ≡ named → get_or (segments_at index.terms named.term) seg no_segment ≡ s
      → named_by (entry (head_of term_place seg s)) ≡ record { term_place = term_place; weight = s.impact * named.times; docs = s.docs }
  segment_is term_place seg named s is at =
      let docs = docs_are term_place seg named s is at in
      let weight : s.impact * (get_or all term_place no_term).times ≡ s.impact * named.times = ap (λ (n : QueryTerm). s.impact * n.times) is in
      (λ i. record { term_place = term_place; weight = weight i; docs = docs i })

  names_is : (d term_place seg : ℕ) (named : QueryTerm) (s : SegmentData) → get_or all term_place no_term ≡ named → get_or (segments_at index.terms named.term) seg no_segment ≡ s
      → term_place < length all → named.term < length index.terms → 1 ≤ named.times → seg < length (segments_at index.terms named.term) → IsSegment d s
      → Names (entry (head_of term_place seg s))
  names_is d term_place seg named s is at inside known some there segment = record {
    term_place = inside;
    term = subst (λ (n : QueryTerm). n.term < length index.terms) (sym is) known;
    segment = subst (λ (n : QueryTerm). seg < length (segments_at index.terms n.term)) (sym is) there;
    count = ap length (sym (docs_are term_place seg named s is at));
    some = segment.docs.some;
    weight = subst (λ (n : QueryTerm). 1 ≤ s.impact * n.times) (sym is) (product s.impact named.times segment.impact.0 some);
  } where
    product : (a b : ℕ) → 1 ≤ a → 1 ≤ b → 1 ≤ a * b
    product a b p q = grind (arith, p, q)

  query_segments_are_at : (term_place seg : ℕ) (named : QueryTerm) (segments : List SegmentData) → get_or all term_place no_term ≡ named → Suffix (segments_at index.terms named.term) seg segments
      → map named_by (map entry (heads_at term_place seg segments)) ≡ query_segments_at term_place named segments
  query_segments_are_at term_place seg named [] is rest = refl
  query_segments_are_at term_place seg named (s ∷ ss) is rest =
      ap₂ (λ (c : PlanSegment) (cs : List PlanSegment). c ∷ cs) (segment_is term_place seg named s is (first_of (segments_at index.terms named.term) seg s ss no_segment rest))
      (query_segments_are_at term_place (suc seg) named ss is (rest_of (segments_at index.terms named.term) seg s ss rest))

  names_at : (d term_place seg : ℕ) (named : QueryTerm) (segments : List SegmentData) → get_or all term_place no_term ≡ named → Suffix (segments_at index.terms named.term) seg segments
      → term_place < length all → named.term < length index.terms → 1 ≤ named.times → seg + length segments ≡ length (segments_at index.terms named.term) → AllByRecursion (IsSegment d) segments
      → AllByRecursion Names (map entry (heads_at term_place seg segments))
  names_at d term_place seg named [] is rest inside known some there h = tt
  names_at d term_place seg named (s ∷ ss) is rest inside known some there h = (
    names_is d term_place seg named s is (first_of (segments_at index.terms named.term) seg s ss no_segment rest) inside known some (omega (arith, there)) h.0,
    names_at d term_place (suc seg) named ss is (rest_of (segments_at index.terms named.term) seg s ss rest) inside known some (omega (arith, there)) h.1,
  )

  query_segments_are_from : (term_place : ℕ) (query : List QueryTerm) → Suffix all term_place query → map named_by (map entry (heads_from term_place query index.terms)) ≡ query_segments_from term_place query index.terms
  query_segments_are_from term_place [] rest = refl
  query_segments_are_from term_place (named ∷ query) rest =
      let here : List PlanHead = heads_at term_place 0 (segments_at index.terms named.term) in
      let later : List PlanHead = heads_from (suc term_place) query index.terms in
      ap (map named_by) (map-append entry here later) ∙ map-append named_by (map entry here) (map entry later)
      ∙ ap₂ (λ (x y : List PlanSegment). x ++ y) (query_segments_are_at term_place 0 named (segments_at index.terms named.term) (first_of all term_place named query no_term rest) (λ i d. let none : 0 + i ≡ i = omega arith in ap (λ n. get_or (segments_at index.terms named.term) n d) none))
      (query_segments_are_from (suc term_place) query (rest_of all term_place named query rest))

  segments_of : (d : ℕ) (terms : List TermData) (n : ℕ) → AllByRecursion (IsTerm d) terms → AllByRecursion (IsSegment d) (segments_at terms n)
  segments_of d [] n h = tt
  segments_of d (t ∷ ts) zero h = recursion_from_All (IsSegment d) t.segments h.0.segments
  segments_of d (t ∷ ts) (suc n) h = segments_of d ts n h.1

  names_from : (d term_place : ℕ) (query : List QueryTerm) → Suffix all term_place query → term_place + length query ≡ length all → AllByRecursion (λ (n : QueryTerm). n.term < length index.terms) query
      → AllByRecursion (λ (n : QueryTerm). 1 ≤ n.times) query → AllByRecursion (IsTerm d) index.terms → AllByRecursion Names (map entry (heads_from term_place query index.terms))
  names_from d term_place [] rest many known some h = tt
  names_from d term_place (named ∷ query) rest many known some h =
      let here : List PlanHead = heads_at term_place 0 (segments_at index.terms named.term) in
      let later : List PlanHead = heads_from (suc term_place) query index.terms in
      subst (λ (es : List PlanEntry). AllByRecursion Names es) (sym (map-append entry here later)) (all_append Names (map entry here) (map entry later)
      (names_at d term_place 0 named (segments_at index.terms named.term) (first_of all term_place named query no_term rest)
      (λ i d. let none : 0 + i ≡ i = omega arith in ap (λ n. get_or (segments_at index.terms named.term) n d) none) (omega (arith, many)) known.0 some.0
      (omega arith) (segments_of d index.terms named.term h))
      (names_from d (suc term_place) query (rest_of all term_place named query rest) (omega (arith, many)) known.1 some.1 h))

  -- ---- the arranged entries

  cmp_agrees : (x y : PlanEntry) → Names x → Names y → plan_cmp (named_by x) (named_by y) ≡ entry_cmp x y
  cmp_agrees x y p q =
      let one = p.count in let other = q.count in
      (λ i. ordering_then (ordering_then (nat_cmp y.weight x.weight) (nat_cmp (sym one i) (sym other i))) (nat_cmp x.term_place y.term_place))

  shapes : (es : List PlanEntry) → AllByRecursion Names es → map shape (map named_by es) ≡ map entry_shape es
  shapes [] h = refl
  shapes (e ∷ es) h =
      let count = h.0.count in
      ap₂ (λ x xs. x ∷ xs) (λ i. record { term_place = e.term_place; weight = e.weight; size = sym count i }) (shapes es h.1)

pub entries_named : (index : IndexData) (terms : List QueryTerm) → IsWellFormed index → AreTerms terms → All (λ (n : QueryTerm). n.term < length index.terms) terms
    → AllByRecursion (NamesSegment index terms) (map (entry_of terms) (query_heads index terms))
entries_named index terms is are known = names_from index terms (length index.names) 0 terms (λ i d. ap (λ n. get_or terms n d) (omega arith)) (omega arith)
    (recursion_from_All (λ (n : QueryTerm). n.term < length index.terms) terms known) (recursion_from_All (λ (n : QueryTerm). 1 ≤ n.times) terms are.named)
    (recursion_from_All (IsTerm (length index.names)) index.terms is.terms)

pub arranged_named : (index : IndexData) (terms : List QueryTerm) → IsWellFormed index → AreTerms terms → All (λ (n : QueryTerm). n.term < length index.terms) terms
    → AllByRecursion (NamesSegment index terms) (plan_with terms (query_heads index terms)).entries
arranged_named index terms is are known = all_sorted entry_cmp (NamesSegment index terms) (map (entry_of terms) (query_heads index terms)) (entries_named index terms is are known)

pub arranged_segments : (index : IndexData) (terms : List QueryTerm) → IsWellFormed index → AreTerms terms → All (λ (n : QueryTerm). n.term < length index.terms) terms
    → sorted plan_cmp (query_segments index terms) ≡ map (segment_named index terms) (plan_with terms (query_heads index terms)).entries
arranged_segments index terms is are known =
    ap (sorted plan_cmp) (sym (query_segments_are_from index terms 0 terms (λ i d. ap (λ n. get_or terms n d) (omega arith))))
    ∙ sorted_map_where (segment_named index terms) (NamesSegment index terms) entry_cmp plan_cmp (cmp_agrees index terms)
    (map (entry_of terms) (query_heads index terms)) (entries_named index terms is are known)

pub arranged_shapes : (index : IndexData) (terms : List QueryTerm) → IsWellFormed index → AreTerms terms → All (λ (n : QueryTerm). n.term < length index.terms) terms
    → map shape (map (segment_named index terms) (plan_with terms (query_heads index terms)).entries) ≡ map entry_shape (plan_with terms (query_heads index terms)).entries
arranged_shapes index terms is are known = shapes index terms (plan_with terms (query_heads index terms)).entries (arranged_named index terms is are known)

-- ---- the heads are those of segments of the query's terms, each once

module _ (limit : ℕ) where
  abbrev IsHead : ℕ → PlanHead → Type 0
  IsHead from h = (from ≤ h.term_place) × (h.term_place < limit) × (1 ≤ h.impact) × (1 ≤ h.count)

  heads_are_at : (d term_place seg : ℕ) (segments : List SegmentData) → term_place < limit → AllByRecursion (IsSegment d) segments
      → AllByRecursion (λ (h : PlanHead). (h.term_place ≡ term_place) × IsHead term_place h) (heads_at term_place seg segments)
  heads_are_at d term_place seg [] inside h = tt
  heads_are_at d term_place seg (s ∷ ss) inside h = ((refl, (omega arith, inside, h.0.impact.0, h.0.docs.some)), heads_are_at d term_place (suc seg) ss inside h.1)

  heads_are_from : (d term_place : ℕ) (query : List QueryTerm) (terms : List TermData) → term_place + length query ≡ limit → AllByRecursion (IsTerm d) terms
      → AllByRecursion (IsHead term_place) (heads_from term_place query terms)
  heads_are_from d term_place [] terms many h = tt
  heads_are_from d term_place (named ∷ query) terms many h =
      all_append (IsHead term_place) (heads_at term_place 0 (segments_at terms named.term)) (heads_from (suc term_place) query terms)
      (all_weaker (λ (h : PlanHead). (h.term_place ≡ term_place) × IsHead term_place h) (IsHead term_place) (λ x p. p.1) (heads_at term_place 0 (segments_at terms named.term))
      (heads_are_at d term_place 0 (segments_at terms named.term) (omega (arith, many)) (segments_of (record { names = []; terms = terms }) [] d terms named.term h)))
      (all_weaker (IsHead (suc term_place)) (IsHead term_place) (λ x p. (omega (arith, p.0), p.1, p.2, p.3)) (heads_from (suc term_place) query terms) (heads_are_from d (suc term_place) query terms (omega (arith, many)) h))

abbrev Falls : PlanHead → PlanHead → Type 0
Falls a b = a.term_place ≡ b.term_place → Fall a b

later_fall : (term_place low seg : ℕ) (s : SegmentData) (segments : List SegmentData) → low < seg → AllByRecursion (λ (t : SegmentData). FallsTo s t) segments
    → AllByRecursion (λ (b : PlanHead). Falls (head_of term_place low s) b) (heads_at term_place seg segments)
later_fall term_place low seg s [] far h = tt
later_fall term_place low seg s (t ∷ ts) far h = ((λ _. inl (far, h.0)), later_fall term_place low (suc seg) s ts (omega (arith, far)) h.1)

fall_at : (term_place seg : ℕ) (segments : List SegmentData) → Pairs FallsTo segments → Pairs Falls (heads_at term_place seg segments)
fall_at term_place seg [] h = tt
fall_at term_place seg (s ∷ ss) h = (later_fall term_place seg (suc seg) s ss (omega arith) h.0, fall_at term_place (suc seg) ss h.1)

falling_at : (d : ℕ) (terms : List TermData) (n : ℕ) → AllByRecursion (IsTerm d) terms → Pairs FallsTo (segments_at terms n)
falling_at d [] n h = tt
falling_at d (t ∷ ts) zero h = (term_kept d t h.0).falling
falling_at d (t ∷ ts) (suc n) h = falling_at d ts n h.1

fall_from : (limit d term_place : ℕ) (query : List QueryTerm) (terms : List TermData) → term_place + length query ≡ limit → AllByRecursion (IsTerm d) terms → Pairs Falls (heads_from term_place query terms)
fall_from limit d term_place [] terms many h = tt
fall_from limit d term_place (named ∷ query) terms many h =
    let here : List PlanHead = heads_at term_place 0 (segments_at terms named.term) in
    let later : List PlanHead = heads_from (suc term_place) query terms in
    pairs_append Falls here later (fall_at term_place 0 (segments_at terms named.term) (falling_at d terms named.term h)) (fall_from limit d (suc term_place) query terms (omega (arith, many)) h)
    (all_weaker (λ (a : PlanHead). (a.term_place ≡ term_place) × IsHead limit term_place a) (λ (a : PlanHead). AllByRecursion (λ b. Falls a b) later)
    (λ a p. all_weaker (IsHead limit (suc term_place)) (λ (b : PlanHead). Falls a b) (λ b q same. absurd (omega (arith, p.0, q.0, same))) later
    (heads_are_from limit d (suc term_place) query terms (omega (arith, many)) h)) here
    (heads_are_at limit d term_place 0 (segments_at terms named.term) (omega (arith, many)) (segments_of (record { names = []; terms = terms }) [] d terms named.term h)))

pub heads_are : (index : IndexData) (terms : List QueryTerm) → IsWellFormed index → AreHeads terms (query_heads index terms)
heads_are index terms is =
    let d = length index.names in
    let each = recursion_from_All (IsTerm d) index.terms is.terms in
    let heads : AllByRecursion (IsHead (length terms) 0) (query_heads index terms) = heads_are_from (length terms) d 0 terms index.terms (omega arith) each in
    record {
      inside = All-from_recursion (λ (h : PlanHead). h.term_place < length terms) (query_heads index terms) (all_weaker (IsHead (length terms) 0) (λ (h : PlanHead). h.term_place < length terms) (λ h p. p.1) (query_heads index terms) heads);
      impacts = All-from_recursion (λ (h : PlanHead). 1 ≤ h.impact) (query_heads index terms) (all_weaker (IsHead (length terms) 0) (λ (h : PlanHead). 1 ≤ h.impact) (λ h p. p.2) (query_heads index terms) heads);
      counts = All-from_recursion (λ (h : PlanHead). 1 ≤ h.count) (query_heads index terms) (all_weaker (IsHead (length terms) 0) (λ (h : PlanHead). 1 ≤ h.count) (λ h p. p.3) (query_heads index terms) heads);
      fall = pairs_by_places Falls (query_heads index terms) (fall_from (length terms) d 0 terms index.terms (omega arith) each);
    }
