-- The segments that a query names, as its weighted postings and as the segments of its plan.
use Rattle.shared_lemmas.proofs.Common.{◌≡◌, ◌≢◌, ℕ, zero, suc, ◌+◌, ◌*◌, ◌<◌, ◌≤◌, List, [], ◌∷◌, ◌++◌, map, filter, length, Bool, true, false, ◌==◌, refl, sym, ap, ap₂, ◌∙◌, arith, append-nil, AllPairs, All, AllByRecursion, flat_map, map-append, flat_map-append, filter-append, recursion_from_All}
use Rattle.shared_lemmas.proofs.Common.{map-map, ne_eqb}
use Rattle.shared_lemmas.proofs.Pairs.{Pairs, pairs_by_places, pairs_weaker, pairs_append, pairs_map}
use Rattle.shared_lemmas.proofs.Lists.{all_weaker, all_append, filter_all}
use Rattle.jass_base.specs.declared.query_term.QueryTerm.{QueryTerm}
use Rattle.ranking_model.specs.declared.entry.Entry.{Entry}
use Rattle.ranking_model.specs.declared.plan_segment.PlanSegment.{PlanSegment}
use Rattle.ranking_model.specs.declared.posting.WeightedPosting.{WeightedPosting}
use Rattle.ranking_model.specs.Plan.{postings_of}
use Rattle.ranking_model.specs.Postings.{weighted_from, weighted_postings}
use Rattle.std.proofs.lemmas.Bool.{eq-eqb}
use Rattle.index_model.specs.Index.{SegmentData, TermData, IndexData, IsSegment, IsTerm, IsWellFormed, FallsTo}
use Rattle.index_model.specs.Flat.{segment_entries, term_entries, numbered_from, numbered_flat}
use Rattle.index_model.specs.Querying.{segments_at, query_segments_at, query_segments_from, query_segments}
use Rattle.index_model.proofs.FlatOrder.{Kept, term_kept}
use Rattle.index_model.proofs.Numbers.{own_entries}

-- ---- the entries of a number

filter_none : {A : Type 0} (p : A → Bool) (xs : List A) → AllByRecursion (λ x. p x ≡ false) xs → filter p xs ≡ []
filter_none p [] h = refl
filter_none p (x ∷ xs) h = rw h.0 (filter_none p xs h.1)

from_number : (n : ℕ) (terms : List TermData) → AllByRecursion (λ (e : Entry ℕ). n ≤ e.term) (numbered_from n terms)
from_number n [] = tt
from_number n (t ∷ ts) = all_append (λ (e : Entry ℕ). n ≤ e.term) (term_entries n t.segments) (numbered_from (suc n) ts)
    (all_weaker (λ (e : Entry ℕ). e.term ≡ n) (λ (e : Entry ℕ). n ≤ e.term) (λ e k. omega (arith, k)) (term_entries n t.segments) (own_entries n t.segments))
    (all_weaker (λ (e : Entry ℕ). suc n ≤ e.term) (λ (e : Entry ℕ). n ≤ e.term) (λ e k. omega (arith, k)) (numbered_from (suc n) ts) (from_number (suc n) ts))

abbrev Of : ℕ → Entry ℕ → Bool
Of n e = e.term == n

entries_at : (m n k : ℕ) (terms : List TermData) → n ≡ m + k → filter (Of n) (numbered_from m terms) ≡ term_entries n (segments_at terms k)
entries_at m n k [] is = refl
entries_at m n zero (t ∷ ts) is =
    let at : m ≡ n = omega (arith, is) in
    let own : filter (Of n) (term_entries m t.segments) ≡ term_entries m t.segments
    = filter_all (Of n) (term_entries m t.segments) (all_weaker (λ (e : Entry ℕ). e.term ≡ m) (λ (e : Entry ℕ). Of n e ≡ true) (λ e h. eq-eqb e.term n (h ∙ at)) (term_entries m t.segments) (own_entries m t.segments)) in
    let later : filter (Of n) (numbered_from (suc m) ts) ≡ []
    = filter_none (Of n) (numbered_from (suc m) ts) (all_weaker (λ (e : Entry ℕ). suc m ≤ e.term) (λ (e : Entry ℕ). Of n e ≡ false) (λ e h. ne_eqb e.term n (λ same. omega (arith, h, same, at))) (numbered_from (suc m) ts) (from_number (suc m) ts)) in
    filter-append (Of n) (term_entries m t.segments) (numbered_from (suc m) ts)
    ∙ ap₂ (λ (x y : List (Entry ℕ)). x ++ y) own later ∙ append-nil (term_entries m t.segments) ∙ ap (λ (x : ℕ). term_entries x t.segments) at
entries_at m n (suc k) (t ∷ ts) is =
    let own : filter (Of n) (term_entries m t.segments) ≡ []
    = filter_none (Of n) (term_entries m t.segments) (all_weaker (λ (e : Entry ℕ). e.term ≡ m) (λ (e : Entry ℕ). Of n e ≡ false) (λ e h. ne_eqb e.term n (λ same. omega (arith, h, same, is))) (term_entries m t.segments) (own_entries m t.segments)) in
    filter-append (Of n) (term_entries m t.segments) (numbered_from (suc m) ts)
    ∙ ap (λ (x : List (Entry ℕ)). x ++ filter (Of n) (numbered_from (suc m) ts)) own ∙ entries_at (suc m) n k ts (omega (arith, is))

-- ---- the weighted postings

abbrev weighted : ℕ → QueryTerm → Entry ℕ → WeightedPosting
weighted term_place named e = record { term_place = term_place; doc = e.doc; weight = e.impact * named.times }

weighted_term : (term_place : ℕ) (named : QueryTerm) (n : ℕ) (segments : List SegmentData) → map (weighted term_place named) (term_entries n segments) ≡ flat_map postings_of (query_segments_at term_place named segments)
weighted_term term_place named n [] = refl
weighted_term term_place named n (s ∷ ss) =
    map-append (weighted term_place named) (segment_entries n s) (term_entries n ss)
    ∙ ap₂ (λ (x y : List WeightedPosting). x ++ y) (map-map (weighted term_place named) (λ (doc : ℕ). record { term = n; doc = doc; impact = s.impact }) s.docs) (weighted_term term_place named n ss)

weighted_all : (term_place : ℕ) (query : List QueryTerm) (terms : List TermData) → weighted_from term_place query (numbered_from 0 terms) ≡ flat_map postings_of (query_segments_from term_place query terms)
weighted_all term_place [] terms = refl
weighted_all term_place (named ∷ query) terms =
    ap₂ (λ (x y : List WeightedPosting). x ++ y)
    (ap (map (weighted term_place named)) (entries_at 0 named.term named.term terms (omega arith)) ∙ weighted_term term_place named named.term (segments_at terms named.term))
    (weighted_all (suc term_place) query terms)
    ∙ sym (flat_map-append postings_of (query_segments_at term_place named (segments_at terms named.term)) (query_segments_from (suc term_place) query terms))

pub weighs : (index : IndexData) (query : List QueryTerm) → weighted_postings (numbered_flat index) query ≡ flat_map postings_of (query_segments index query)
weighs index query = weighted_all 0 query index.terms

-- ---- the segments

abbrev Some : SegmentData → Type 0
Some s = 1 ≤ length s.docs

at_kept : (d : ℕ) (terms : List TermData) (n : ℕ) → AllByRecursion (IsTerm d) terms → Kept d (segments_at terms n) × AllByRecursion Some (segments_at terms n)
at_kept d [] n h = (record { falling = tt; rising = tt; once = tt; below = tt; impacts = tt }, tt)
at_kept d (t ∷ ts) zero h = (term_kept d t h.0, all_weaker (IsSegment d) Some (λ s k. k.docs.some) t.segments (recursion_from_All (IsSegment d) t.segments h.0.segments))
at_kept d (t ∷ ts) (suc n) h = at_kept d ts n h.1

abbrev Full : PlanSegment → Type 0
Full segment = segment.docs ≢ []

abbrev Apart : PlanSegment → PlanSegment → Type 0
Apart a b = a.term_place ≡ b.term_place → a.weight ≢ b.weight

full_docs : (docs : List ℕ) → 1 ≤ length docs → docs ≢ []
full_docs docs some is = omega (arith, some, ap length is)

full_at : (term_place : ℕ) (named : QueryTerm) (segments : List SegmentData) → AllByRecursion Some segments → AllByRecursion Full (query_segments_at term_place named segments)
full_at term_place named [] h = tt
full_at term_place named (s ∷ ss) h = (full_docs s.docs h.0, full_at term_place named ss h.1)

less_weight : (a b times : ℕ) → b < a → 1 ≤ times → a * times ≢ b * times
less_weight a b times less some is = grind (arith, less, some, is)

apart_at : (term_place : ℕ) (named : QueryTerm) (segments : List SegmentData) → 1 ≤ named.times → Pairs FallsTo segments → Pairs Apart (query_segments_at term_place named segments)
apart_at term_place named segments some h = pairs_map Apart (λ (s : SegmentData). record { term_place = term_place; weight = s.impact * named.times; docs = s.docs }) segments
    (pairs_weaker FallsTo (λ (a b : SegmentData). term_place ≡ term_place → a.impact * named.times ≢ b.impact * named.times) (λ a b falls same. less_weight a.impact b.impact named.times falls some) segments h)

places_at : (term_place : ℕ) (named : QueryTerm) (segments : List SegmentData) → AllByRecursion (λ (c : PlanSegment). c.term_place ≡ term_place) (query_segments_at term_place named segments)
places_at term_place named [] = tt
places_at term_place named (s ∷ ss) = (refl, places_at term_place named ss)

places_from : (term_place : ℕ) (query : List QueryTerm) (terms : List TermData) → AllByRecursion (λ (c : PlanSegment). term_place ≤ c.term_place) (query_segments_from term_place query terms)
places_from term_place [] terms = tt
places_from term_place (named ∷ query) terms = all_append (λ (c : PlanSegment). term_place ≤ c.term_place) (query_segments_at term_place named (segments_at terms named.term)) (query_segments_from (suc term_place) query terms)
    (all_weaker (λ (c : PlanSegment). c.term_place ≡ term_place) (λ (c : PlanSegment). term_place ≤ c.term_place) (λ c is. omega (arith, is)) (query_segments_at term_place named (segments_at terms named.term)) (places_at term_place named (segments_at terms named.term)))
    (all_weaker (λ (c : PlanSegment). suc term_place ≤ c.term_place) (λ (c : PlanSegment). term_place ≤ c.term_place) (λ c is. omega (arith, is)) (query_segments_from (suc term_place) query terms) (places_from (suc term_place) query terms))

full_from : (d term_place : ℕ) (query : List QueryTerm) (terms : List TermData) → AllByRecursion (IsTerm d) terms → AllByRecursion Full (query_segments_from term_place query terms)
full_from d term_place [] terms h = tt
full_from d term_place (named ∷ query) terms h = all_append Full (query_segments_at term_place named (segments_at terms named.term)) (query_segments_from (suc term_place) query terms)
    (full_at term_place named (segments_at terms named.term) (at_kept d terms named.term h).1) (full_from d (suc term_place) query terms h)

apart_from : (d term_place : ℕ) (query : List QueryTerm) (terms : List TermData) → AllByRecursion (IsTerm d) terms → AllByRecursion (λ (n : QueryTerm). 1 ≤ n.times) query → Pairs Apart (query_segments_from term_place query terms)
apart_from d term_place [] terms h some = tt
apart_from d term_place (named ∷ query) terms h some =
    let here : List PlanSegment = query_segments_at term_place named (segments_at terms named.term) in
    let later : List PlanSegment = query_segments_from (suc term_place) query terms in
    pairs_append Apart here later (apart_at term_place named (segments_at terms named.term) some.0 (at_kept d terms named.term h).0.falling) (apart_from d (suc term_place) query terms h some.1)
    (all_weaker (λ (c : PlanSegment). c.term_place ≡ term_place) (λ (a : PlanSegment). AllByRecursion (λ b. Apart a b) later)
    (λ a is. all_weaker (λ (b : PlanSegment). suc term_place ≤ b.term_place) (λ b. Apart a b) (λ b far same. absurd (omega (arith, is, far, same))) later (places_from (suc term_place) query terms)) here (places_at term_place named (segments_at terms named.term)))

pub all_full : (index : IndexData) (query : List QueryTerm) → IsWellFormed index → AllByRecursion Full (query_segments index query)
all_full index query is = full_from (length index.names) 0 query index.terms (recursion_from_All (IsTerm (length index.names)) index.terms is.terms)

pub all_apart : (index : IndexData) (query : List QueryTerm) → IsWellFormed index → All (λ (n : QueryTerm). 1 ≤ n.times) query → AllPairs Apart (query_segments index query)
all_apart index query is some = pairs_by_places Apart (query_segments index query)
    (apart_from (length index.names) 0 query index.terms (recursion_from_All (IsTerm (length index.names)) index.terms is.terms) (recursion_from_All (λ (n : QueryTerm). 1 ≤ n.times) query some))
