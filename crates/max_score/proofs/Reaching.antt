-- The first segments of a term have different documents, and each of these at least the last one's impact.
use Rattle.shared_lemmas.proofs.Common.{◌≡◌, ℕ, zero, suc, ◌+◌, ◌-◌, ◌*◌, ◌<◌, ◌≤◌, ◌==◌, List, [], ◌∷◌, ◌++◌, length, map, take, max, get_or, sum_by, count_by, true, cond, refl, sym, ap, subst, ◌∙◌, arith, inl, inr, ◌⊎◌, AllByRecursion, All-from_recursion, recursion_from_All, Contains, is_lt, nat_tests, nat_cmp, ordering_then, cases_eq, cases_lt}
use Rattle.shared_lemmas.proofs.Common.{sum_by-cons, sum_by-append, sum_by_more, length-append, length-map, get_or-map-range_with_len, get_or-le-sum_by, mul-le-mul_right, eq-eqb}
use Rattle.shared_lemmas.proofs.Lists.{all_append}
use Rattle.shared_lemmas.proofs.Members.{In, all_in}
use Rattle.shared_lemmas.proofs.Pairs.{Pairs, pairs_by_recursion, rising_pairs}
use Rattle.jass_base.specs.declared.answer.Hit.{Hit}
use Rattle.ranking_model.specs.Scores.{rank_cmp}
use Rattle.index_model.specs.Index.{FallsTo, IndexData, IsWellFormed, IsSegment, IsTerm, SegmentData, SharesNoDocument}
use Rattle.index_file.specs.Places.{segment_at}
use Rattle.index_model.specs.Querying.{segments_at}
use Rattle.max_score.specs.Cursors.{CursorView, impact_in, postings_in}
use Rattle.max_score.specs.declared.term_list.TermList.{TermList}
use Rattle.max_score.specs.Private.Lists.{score_in, scores_in, weight_in}
use Rattle.max_score.specs.Private.Reaching.{HasMany}
use Rattle.max_score.specs.Private.Standing.{IsBeaten, Misses, hit_of}
use Rattle.max_score.specs.Private.Unread.{IsRead}
use Rattle.max_score.proofs.Ahead.{of_doc}
use Rattle.max_score.proofs.Bounds.{score_at, scores_length}
use Rattle.max_score.proofs.Stamps.{counted, none_of, once}

-- ---- the documents of some segments

abbrev count : ℕ → List ℕ → ℕ
count doc docs = count_by (λ d. d == doc) docs

abbrev pub docs_in : List SegmentData → List ℕ
docs_in [] = []
docs_in (s ∷ segments) = s.docs ++ docs_in segments

pub length_in : (segments : List SegmentData) → length (docs_in segments) ≡ postings_in segments
length_in [] = refl
length_in (s ∷ segments) =
    let both = length-append s.docs (docs_in segments) in
    let split = sum_by-cons (λ (t : SegmentData). length t.docs) s segments in
    let rest = length_in segments in
    omega (arith, both, split, rest)

none_in : (doc n : ℕ) (segments : List SegmentData) → AllByRecursion (λ (s : SegmentData). count doc s.docs ≡ 0) segments → count doc (docs_in (take n segments)) ≡ 0
none_in doc zero segments none = refl
none_in doc (suc n) [] none = refl
none_in doc (suc n) (s ∷ segments) none =
    let both = sum_by-append (λ (d : ℕ). cond (d == doc) 1 0) s.docs (docs_in (take n segments)) in
    let here = none.0 in
    let rest = none_in doc n segments none.1 in
    omega (arith, both, here, rest)

once_in : (doc n : ℕ) (segments : List SegmentData) → AllByRecursion (λ (s : SegmentData). Pairs (λ x y. x < y) s.docs) segments → Pairs SharesNoDocument segments → count doc (docs_in (take n segments)) ≤ 1
once_in doc zero segments rising apart = omega arith
once_in doc (suc n) [] rising apart = omega arith
once_in doc (suc n) (s ∷ segments) rising apart = by (cases_eq (count doc s.docs) 0) (once_in doc n segments rising.1 apart.1) where
  both : count doc (s.docs ++ docs_in (take n segments)) ≡ count doc s.docs + count doc (docs_in (take n segments))
  both = sum_by-append (λ (d : ℕ). cond (d == doc) 1 0) s.docs (docs_in (take n segments))

  by : (count doc s.docs ≡ 0) ⊎ (count doc s.docs ≡ 0 → ⊥) → count doc (docs_in (take n segments)) ≤ 1 → count doc (s.docs ++ docs_in (take n segments)) ≤ 1
  by (inl none) rest = omega (arith, both, none, rest)
  by (inr some) later =
      let here = counted doc s.docs (omega arith) in
      let most = once doc s.docs rising.0 in
      let rest = none_in doc n segments (none_of doc s segments apart.0 here) in
      omega (arith, both, most, rest)

has : (doc : ℕ) (docs : List ℕ) → In doc docs → 1 ≤ count doc docs
has doc [] there = absurd there
has doc (d ∷ docs) (inl e) =
    let s = sum_by-cons (λ (x : ℕ). cond (x == doc) 1 0) d docs in
    let t : (d == doc) ≡ true = eq-eqb d doc (sym e) in
    rw (s, t) (omega arith)
has doc (d ∷ docs) (inr there) = let s = sum_by-cons (λ (x : ℕ). cond (x == doc) 1 0) d docs in let rest = has doc docs there in omega (arith, s, rest)

-- ---- their impacts

-- an impact is at least that of a later segment
high : (n : ℕ) (segments : List SegmentData) (none : SegmentData) → Pairs FallsTo segments → n < length segments → AllByRecursion (λ (s : SegmentData). (get_or segments n none).impact ≤ s.impact) (take (suc n) segments)
high n [] none falling inside = absurd (omega arith)
high zero (s ∷ segments) none falling inside = (omega arith, tt)
high (suc n) (s ∷ segments) none falling inside =
    ((let less = All-from_recursion (FallsTo s) segments falling.0 n none (omega arith) in omega (arith, less)), high n segments none falling.1 (omega arith))

at_least : (least : ℕ) (segments all : List SegmentData) → ((doc : ℕ) → impact_in segments doc ≤ impact_in all doc) → AllByRecursion (λ (s : SegmentData). least ≤ s.impact) segments
    → AllByRecursion (λ doc. least ≤ impact_in all doc) (docs_in segments)
at_least least [] all more high = tt
at_least least (s ∷ segments) all more high = all_append (λ doc. least ≤ impact_in all doc) s.docs (docs_in segments)
    (all_in (λ doc. least ≤ impact_in all doc) s.docs here)
    (at_least least segments all (λ doc. let split = parts doc in let less = more doc in omega (arith, split, less)) high.1)
  where
    parts : (doc : ℕ) → impact_in (s ∷ segments) doc ≡ s.impact * count doc s.docs + impact_in segments doc
    parts doc = sum_by-cons (λ (t : SegmentData). t.impact * count doc t.docs) s segments

    here : (doc : ℕ) → In doc s.docs → least ≤ impact_in all doc
    here doc there =
        let split = parts doc in
        let less = more doc in
        let one = times s.impact (count doc s.docs) (has doc s.docs there) in
        let enough = high.0 in
        omega (arith, split, less, one, enough)
      where
        times : (i n : ℕ) → 1 ≤ n → i ≤ i * n
        times i zero some = absurd (omega arith)
        times i (suc n) some = omega arith

front_less : (n doc : ℕ) (segments : List SegmentData) → impact_in (take n segments) doc ≤ impact_in segments doc
front_less zero doc segments = omega arith
front_less (suc n) doc [] = omega arith
front_less (suc n) doc (s ∷ segments) =
    let split = sum_by-cons (λ (t : SegmentData). t.impact * count doc t.docs) s (take n segments) in
    let also = sum_by-cons (λ (t : SegmentData). t.impact * count doc t.docs) s segments in
    let rest = front_less n doc segments in
    omega (arith, split, also, rest)

below_in : (docs n : ℕ) (segments : List SegmentData) → AllByRecursion (IsSegment docs) segments → AllByRecursion (λ d. d < docs) (docs_in (take n segments))
below_in docs zero segments all = tt
below_in docs (suc n) [] all = tt
below_in docs (suc n) (s ∷ segments) all = all_append (λ d. d < docs) s.docs (docs_in (take n segments)) (recursion_from_All (λ d. d < docs) s.docs all.0.docs.below) (below_in docs n segments all.1)

rising_all : (docs : ℕ) (segments : List SegmentData) → AllByRecursion (IsSegment docs) segments → AllByRecursion (λ (s : SegmentData). Pairs (λ x y. x < y) s.docs) segments
rising_all docs [] all = tt
rising_all docs (s ∷ segments) all = (rising_pairs s.docs all.0.docs.rising, rising_all docs segments all.1)

-- ---- a list whose first segments have k postings

module _ (index : IndexData) (list : TermList) (is : IsWellFormed index) (known : list.cursor.term < length index.terms) (read : IsRead index list) where
  abbrev segments : List SegmentData
  segments = segments_at index.terms list.cursor.term

  abbrev docs : ℕ
  docs = length index.names

  term : IsTerm docs (get_or index.terms list.cursor.term (record { term = []; segments = [] }))
  term = is.terms list.cursor.term (record { term = []; segments = [] }) known

  each : AllByRecursion (IsSegment docs) segments
  each = recursion_from_All (IsSegment docs) segments term.segments

  weighs : (d : ℕ) → d < docs → weight_in d list ≡ impact_in segments d * list.times
  weighs d inside = ap (λ n. n * list.times)
      (ap (λ (v : CursorView). get_or v.impacts d 0) read.cursor ∙ get_or-map-range_with_len (impact_in segments) 0 docs d d 0 inside (omega arith))

  pub reached : (n k : ℕ) (none : SegmentData) → n < length segments → k ≤ postings_in (take (suc n) segments) → HasMany docs k ((get_or segments n none).impact * list.times) list
  reached n k none inside many = record {
    them = docs_in (take (suc n) segments);
    once = λ doc. once_in doc (suc n) segments (rising_all docs segments each) (pairs_by_recursion SharesNoDocument segments term.once);
    many = (let long = length_in (take (suc n) segments) in omega (arith, long, many));
    inside = below_in docs (suc n) segments each;
    weigh = heavy (docs_in (take (suc n) segments)) (below_in docs (suc n) segments each)
        (at_least (get_or segments n none).impact (take (suc n) segments) segments (λ doc. front_less (suc n) doc segments) (high n segments none (pairs_by_recursion FallsTo segments term.falling) inside));
  }
    where
      heavy : (them : List ℕ) → AllByRecursion (λ d. d < docs) them → AllByRecursion (λ d. (get_or segments n none).impact ≤ impact_in segments d) them → AllByRecursion (λ d. (get_or segments n none).impact * list.times ≤ weight_in d list) them
      heavy [] below least = tt
      heavy (d ∷ them) below least =
          ((let same = weighs d below.0 in let more = mul-le-mul_right list.times least.0 in omega (arith, same, more)), heavy them below.1 least.1)

  -- what a walk over the heads has found once k postings have been seen
  pub found : (place n k seen more impact factor result : ℕ) → place ≡ list.cursor.term → n < length (segments_at index.terms place) → impact ≡ (segment_at index.terms place n).impact
      → more ≡ length (segment_at index.terms place n).docs → seen ≡ postings_in (take n segments) → k ≤ seen + more → factor ≡ list.times → result ≡ impact * factor - 1 → (result ≡ 0) ⊎ HasMany docs k (result + 1) list
  found place n k seen more impact factor result at inside heavy many sum enough named is = by (cases_eq result 0) where
    none : SegmentData
    none = record { impact = 0; docs = [] }

    there : n < length segments
    there = subst (λ t. n < length (segments_at index.terms t)) at inside

    weight : impact * factor ≡ (get_or segments n none).impact * list.times
    weight = ap (λ i. i * factor) (heavy ∙ ap (λ t. (segment_at index.terms t n).impact) at) ∙ ap (λ t. (get_or segments n none).impact * t) named

    all : k ≤ postings_in (take (suc n) segments)
    all =
        let push = sum_by_more (λ (s : SegmentData). length s.docs) segments n none there in
        let e : suc n ≡ n + 1 = omega arith in
        let same = ap (λ m. postings_in (take m segments)) e in
        let mine = many ∙ ap (λ t. length (segment_at index.terms t n).docs) at in
        omega (arith, push, same, mine, sum, enough)

    by : (result ≡ 0) ⊎ (result ≡ 0 → ⊥) → (result ≡ 0) ⊎ HasMany docs k (result + 1) list
    by (inl e) = inl e
    by (inr some) = let e : (get_or segments n none).impact * list.times ≡ result + 1 = omega (arith, weight, is, some) in inr (subst (λ w. HasMany docs k w list) e (reached n k none there all))

-- ---- k documents that pass a threshold

counts_hits : (scores : List ℕ) (doc : ℕ) (them : List ℕ) → sum_by (of_doc doc) (map (hit_of scores) them) ≡ count doc them
counts_hits scores doc [] = refl
counts_hits scores doc (d ∷ them) =
    let s = sum_by-cons (of_doc doc) (hit_of scores d) (map (hit_of scores) them) in
    let t = sum_by-cons (λ (x : ℕ). cond (x == doc) 1 0) d them in
    let rest = counts_hits scores doc them in
    omega (arith, s, t, rest)

pub missed : (docs k threshold : ℕ) (lists : List TermList) (list : TermList) → Contains lists list → HasMany docs k (threshold + 1) list → Misses (scores_in docs lists) k threshold 0
missed docs k threshold lists list there has doc from inside some low = record {
  ahead = map (hit_of scores) has.them;
  are = record { scored = scored has.them has.inside heavy; once = λ d. (let same = counts_hits scores d has.them in let most = has.once d in omega (arith, same, most)) };
  many = (let long = length-map has.them (hit_of scores) in let many = has.many in omega (arith, long, many));
  before = before has.them heavy;
}
  where
    scores : List ℕ
    scores = scores_in docs lists

    more : (d : ℕ) → weight_in d list ≤ score_in lists d
    more d = subst (λ (l : TermList). weight_in d l ≤ score_in lists d) there.2 (get_or-le-sum_by (weight_in d) lists there.0 list there.1)

    heavy : AllByRecursion (λ d. threshold < get_or scores d 0) has.them
    heavy = over has.them has.inside has.weigh where
      over : (them : List ℕ) → AllByRecursion (λ d. d < docs) them → AllByRecursion (λ d. threshold + 1 ≤ weight_in d list) them → AllByRecursion (λ d. threshold < get_or scores d 0) them
      over [] below weigh = tt
      over (d ∷ them) below weigh = ((let at = score_at docs lists d below.0 in let much = more d in let own = weigh.0 in omega (arith, at, much, own)), over them below.1 weigh.1)

    scored : (them : List ℕ) → AllByRecursion (λ d. d < docs) them → AllByRecursion (λ d. threshold < get_or scores d 0) them
        → AllByRecursion (λ (h : Hit). (h.doc < length scores) × (1 ≤ h.score) × (h.score ≡ get_or scores h.doc 0)) (map (hit_of scores) them)
    scored [] below over = tt
    scored (d ∷ them) below over = (((let long = scores_length docs lists in let less = below.0 in omega (arith, long, less)), (let much = over.0 in omega (arith, much)), refl), scored them below.1 over.1)

    before : (them : List ℕ) → AllByRecursion (λ d. threshold < get_or scores d 0) them → AllByRecursion (λ hit. is_lt (rank_cmp hit (hit_of scores doc)) ≡ true) (map (hit_of scores) them)
    before [] over = tt
    before (d ∷ them) over = (beats (get_or scores d 0) (get_or scores doc 0) d doc (let much = over.0 in omega (arith, much, low)), before them over.1) where
      beats : (x y i j : ℕ) → y < x → is_lt (ordering_then (nat_cmp y x) (nat_cmp i j)) ≡ true
      beats x y i j less = grind (arith, nat_tests)

-- with the threshold of one list more
pub missed_by_both : (docs k threshold one most i : ℕ) (lists : List TermList) (list : TermList) → Misses (scores_in docs lists) k threshold 0 → i < length lists → list ≡ get_or lists i list
    → (one ≡ 0) ⊎ HasMany docs k (one + 1) list → most ≡ max one threshold → Misses (scores_in docs lists) k most 0
missed_by_both docs k threshold one most i lists list misses inside is found both doc from below some low = by found (cases_lt threshold (get_or (scores_in docs lists) doc 0)) where
  by : (one ≡ 0) ⊎ HasMany docs k (one + 1) list → (threshold < get_or (scores_in docs lists) doc 0) ⊎ (get_or (scores_in docs lists) doc 0 ≤ threshold) → IsBeaten (scores_in docs lists) k doc
  by f (inr small) = misses doc from below some small
  by (inl none) (inl more) = absurd (omega (arith, none, both, more, low, some))
  by (inr has) (inl more) = missed docs k one lists list (i, inside, sym is) has doc from below some (omega (arith, both, more, low))
