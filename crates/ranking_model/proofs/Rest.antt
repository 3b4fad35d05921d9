-- What a document can still gain: a term has one posting of it at most, so it gains at most the bound.
use Rattle.shared_lemmas.proofs.Common.{◌≡◌, ◌≢◌, ℕ, zero, suc, ◌+◌, ◌-◌, ◌*◌, ◌<◌, ◌≤◌, max, List, [], ◌∷◌, ◌++◌, map, filter, length, take, drop, true, false, cond, ◌&&◌, refl, sym, ap, ◌∙◌, subst, arith, inl, inr, ◌⊎◌, ◌==◌, sum_by, count_by, eqb-true, nat_lt, AllByRecursion, range_with_len}
use Rattle.shared_lemmas.proofs.Common.{nat_cmp, cases_lt, cases_eq, nat_tests, drop-take, take-take, sum_by-cons, sum_by-append, sum_by_push, sum_by-take-le, sum_by-take-drop, sum_by-le-sum_by, cases_Bool}
use Rattle.ranking_model.specs.declared.entry.Entry.{Entry}
use Rattle.jass_base.specs.declared.query_term.QueryTerm.{QueryTerm}
use Rattle.ranking_model.specs.declared.posting.WeightedPosting.{WeightedPosting}
use Rattle.ranking_model.specs.declared.plan_segment.PlanSegment.{PlanSegment}
use Rattle.ranking_model.specs.Flat.{IsFlat}
use Rattle.ranking_model.specs.Postings.{weighted_at, weighted_from, weighted_postings}
use Rattle.ranking_model.specs.Plan.{is_of, begun, plan_segments, plan_of}
use Rattle.ranking_model.specs.Scores.{gain_of, greatest_weight, bound_after, scores_after}
use Rattle.ranking_model.specs.Finality.{raised, GainsUpTo}
use Rattle.shared_lemmas.proofs.Pairs.{Pairs, pairs_by_recursion}
use Rattle.shared_lemmas.proofs.Lists.{all_drop}
use Rattle.ranking_model.proofs.Totals.{sum_range_more}
use Rattle.ranking_model.proofs.Grouping.{more, segments_sum, segments_all}
use Rattle.ranking_model.proofs.Weighing.{weigh, none_left}

-- ---- how often a document stands in a place

-- as the postings tell it, and as the segments do
abbrev one_at : ℕ → ℕ → WeightedPosting → ℕ
one_at doc term_place p = cond (p.term_place == term_place && p.doc == doc) 1 0

abbrev pub count_at : ℕ → ℕ → PlanSegment → ℕ
count_at doc term_place c = cond (c.term_place == term_place) (count_by (λ d. d == doc) c.docs) 0

at_first : (doc term_place : ℕ) (p : WeightedPosting) → count_at doc term_place (begun p) ≡ one_at doc term_place p
at_first doc term_place p = elim (cases_Bool (p.term_place == term_place)) [ inl e ↦ rw e (omega arith) | inr e ↦ rw e refl ]

at_next : (doc term_place : ℕ) (c : PlanSegment) (p : WeightedPosting) → is_of c p ≡ true → count_at doc term_place (more c p.doc) ≡ count_at doc term_place c + one_at doc term_place p
at_next doc term_place c p e = by (cases_Bool (p.term_place == term_place)) where
  same : c.term_place ≡ p.term_place
  same = grind (arith, nat_tests)

  pushed : count_by (λ d. d == doc) (c.docs ++ p.doc ∷ []) ≡ count_by (λ d. d == doc) c.docs + cond (p.doc == doc) 1 0
  pushed = sum_by_push (λ d. cond (d == doc) 1 0) c.docs p.doc

  by : ((p.term_place == term_place) ≡ true) ⊎ ((p.term_place == term_place) ≡ false) → count_at doc term_place (more c p.doc) ≡ count_at doc term_place c + one_at doc term_place p
  by (inl k) = rw (same, k) pushed
  by (inr k) = rw (same, k) refl

-- no posting of another place counts
elsewhere : (doc term_place other times : ℕ) (es : List (Entry ℕ)) → (other == term_place) ≡ false → sum_by (one_at doc term_place) (map (weigh other times) es) ≡ 0
elsewhere doc term_place other times [] h = refl
elsewhere doc term_place other times (e ∷ es) h =
    sum_by-cons (one_at doc term_place) (weigh other times e) (map (weigh other times) es) ∙ rw h (let rest = elsewhere doc term_place other times es h in omega arith)

above_place : (doc term_place from : ℕ) (terms : List QueryTerm) (flat : List (Entry ℕ)) → term_place < from → sum_by (one_at doc term_place) (weighted_from from terms flat) ≡ 0
above_place doc term_place from [] flat h = refl
above_place doc term_place from (named ∷ terms) flat h =
    let apart : (from == term_place) ≡ false = grind (arith, nat_tests) in
    let first = elsewhere doc term_place from named.times (filter (λ e. e.term == named.term) flat) apart in
    let rest = above_place doc term_place (suc from) terms flat (omega arith) in
    sum_by-append (one_at doc term_place) (weighted_at from named flat) (weighted_from (suc from) terms flat) ∙ omega arith

in_term : (doc term_place times term : ℕ) (es : List (Entry ℕ)) → Pairs (λ a b. a.term ≡ b.term → a.doc ≢ b.doc) es → sum_by (one_at doc term_place) (map (weigh term_place times) (filter (λ f. f.term == term) es)) ≤ 1
in_term doc term_place times term [] p = omega arith
in_term doc term_place times term (e ∷ es) p = by (cases_Bool (e.term == term)) (cases_Bool (e.doc == doc)) (in_term doc term_place times term es p.1) where
  by : ((e.term == term) ≡ true) ⊎ ((e.term == term) ≡ false) → ((e.doc == doc) ≡ true) ⊎ ((e.doc == doc) ≡ false) → sum_by (one_at doc term_place) (map (weigh term_place times) (filter (λ f. f.term == term) es)) ≤ 1
      → sum_by (one_at doc term_place) (map (weigh term_place times) (filter (λ f. f.term == term) (e ∷ es))) ≤ 1
  by (inl t) (inl d) rest =
      let none = none_left (one_at doc term_place) doc term_place times term e es (λ f other. grind (arith, nat_tests)) (eqb-true _ _ t) (eqb-true _ _ d) p.0 in
      let one = sum_by-cons (one_at doc term_place) (weigh term_place times e) (map (weigh term_place times) (filter (λ f. f.term == term) es)) in
      let most : one_at doc term_place (weigh term_place times e) ≤ 1 = grind (arith, nat_tests) in
      rw t (rw one (rw none (omega arith)))
  by (inl t) (inr d) rest =
      let one = sum_by-cons (one_at doc term_place) (weigh term_place times e) (map (weigh term_place times) (filter (λ f. f.term == term) es)) in
      let none : one_at doc term_place (weigh term_place times e) ≡ 0 = grind (arith, nat_tests) in
      rw t (rw one (omega arith))
  by (inr t) d rest = rw t rest

once_in_place : (doc term_place from : ℕ) (terms : List QueryTerm) (flat : List (Entry ℕ)) → Pairs (λ a b. a.term ≡ b.term → a.doc ≢ b.doc) flat → sum_by (one_at doc term_place) (weighted_from from terms flat) ≤ 1
once_in_place doc term_place from [] flat p = omega arith
once_in_place doc term_place from (named ∷ terms) flat p = by (cases_eq from term_place) (once_in_place doc term_place (suc from) terms flat p) where
  split : sum_by (one_at doc term_place) (weighted_from from (named ∷ terms) flat) ≡ sum_by (one_at doc term_place) (weighted_at from named flat) + sum_by (one_at doc term_place) (weighted_from (suc from) terms flat)
  split = sum_by-append (one_at doc term_place) (weighted_at from named flat) (weighted_from (suc from) terms flat)

  by : (from ≡ term_place) ⊎ (from ≡ term_place → ⊥) → sum_by (one_at doc term_place) (weighted_from (suc from) terms flat) ≤ 1 → sum_by (one_at doc term_place) (weighted_from from (named ∷ terms) flat) ≤ 1
  by (inl e) rest =
      let others = above_place doc term_place (suc from) terms flat (omega arith) in
      let first : sum_by (one_at doc term_place) (weighted_at from named flat) ≤ 1 = subst (λ (n : ℕ). sum_by (one_at doc term_place) (weighted_at n named flat) ≤ 1) (sym e) (in_term doc term_place named.times named.term flat p) in
      omega (arith, split)
  by (inr e) rest =
      let apart : (from == term_place) ≡ false = grind (arith, nat_tests) in
      omega (arith, split, elsewhere doc term_place from named.times (filter (λ e. e.term == named.term) flat) apart)

pub segments_once : (doc term_place : ℕ) (terms : List QueryTerm) (flat : List (Entry ℕ)) → Pairs (λ a b. a.term ≡ b.term → a.doc ≢ b.doc) flat → sum_by (count_at doc term_place) (plan_segments (weighted_postings flat terms)) ≤ 1
segments_once doc term_place terms flat p =
    let same = segments_sum (count_at doc term_place) (one_at doc term_place) (at_first doc term_place) (at_next doc term_place) (weighted_postings flat terms) in
    omega (arith, once_in_place doc term_place 0 terms flat p)

-- ---- what a place adds

abbrev pub gain_at : ℕ → ℕ → PlanSegment → ℕ
gain_at doc term_place c = cond (c.term_place == term_place) (gain_of doc c) 0

pub none_at : (doc term_place : ℕ) (cs : List PlanSegment) → sum_by (count_at doc term_place) cs ≡ 0 → sum_by (gain_at doc term_place) cs ≡ 0
none_at doc term_place [] h = refl
none_at doc term_place (c ∷ cs) h = by (cases_Bool (c.term_place == term_place)) (none_at doc term_place cs) where
  parts : count_at doc term_place c + sum_by (count_at doc term_place) cs ≡ 0
  parts = sym (sum_by-cons (count_at doc term_place) c cs) ∙ h

  by : ((c.term_place == term_place) ≡ true) ⊎ ((c.term_place == term_place) ≡ false) → (sum_by (count_at doc term_place) cs ≡ 0 → sum_by (gain_at doc term_place) cs ≡ 0) → sum_by (gain_at doc term_place) (c ∷ cs) ≡ 0
  by (inl e) rest =
      let split = rw e at parts in
      let zero_count : count_by (λ d. d == doc) c.docs ≡ 0 = omega arith in
      let later = rest (omega arith) in
      sum_by-cons (gain_at doc term_place) c cs ∙ rw e (rw (zero_count, later) (omega arith))
  by (inr e) rest = let split = rw e at parts in let later = rest (omega arith) in sum_by-cons (gain_at doc term_place) c cs ∙ rw e (omega arith)

-- in a place that has the document once, it gains at most the place's greatest weight
pub place_gain : (doc term_place : ℕ) (cs : List PlanSegment) → sum_by (count_at doc term_place) cs ≤ 1 → sum_by (gain_at doc term_place) cs ≤ greatest_weight term_place cs
place_gain doc term_place [] h = omega arith
place_gain doc term_place (c ∷ cs) h = by (cases_Bool (c.term_place == term_place)) (place_gain doc term_place cs) where
  parts : count_at doc term_place c + sum_by (count_at doc term_place) cs ≤ 1
  parts = rw (sum_by-cons (count_at doc term_place) c cs) at h

  here : (n w rest best : ℕ) → n ≤ 1 → (n ≡ 0 → rest ≤ best) → (1 ≤ n → rest ≡ 0) → w * n + rest ≤ max w best
  here zero w rest best a b c = let less = b refl in omega arith
  here (suc n) w rest best a b c = let none = c (omega arith) in let e : n ≡ 0 = omega arith in rw (none, e) (omega arith)

  by : ((c.term_place == term_place) ≡ true) ⊎ ((c.term_place == term_place) ≡ false) → (sum_by (count_at doc term_place) cs ≤ 1 → sum_by (gain_at doc term_place) cs ≤ greatest_weight term_place cs) → sum_by (gain_at doc term_place) (c ∷ cs) ≤ greatest_weight term_place (c ∷ cs)
  by (inl e) rest =
      let split = rw e at parts in
      rw (sum_by-cons (gain_at doc term_place) c cs) (rw e (here (count_by (λ d. d == doc) c.docs) c.weight (sum_by (gain_at doc term_place) cs) (greatest_weight term_place cs) (omega arith) (λ k. rest (omega arith)) (λ k. none_at doc term_place cs (omega arith))))
  by (inr e) rest = let split = rw e at parts in rw (sum_by-cons (gain_at doc term_place) c cs) (rw e (let later = rest (omega arith) in omega arith))

-- ---- over all places

sum_zero : {A : Type 0} (xs : List A) → sum_by (λ x. 0) xs ≡ 0
sum_zero [] = refl
sum_zero (x ∷ xs) = sum_by-cons (λ x. 0) x xs ∙ (let rest = sum_zero xs in omega arith)

pub sum_plus : {A : Type 0} (f g : A → ℕ) (xs : List A) → sum_by (λ x. f x + g x) xs ≡ sum_by f xs + sum_by g xs
sum_plus f g [] = refl
sum_plus f g (x ∷ xs) = omega (arith, sum_by-cons (λ x. f x + g x) x xs, sum_by-cons f x xs, sum_by-cons g x xs, sum_plus f g xs)

single : (at x terms : ℕ) → sum_by (λ term_place. cond (at == term_place) x 0) (range_with_len 0 terms) ≡ cond (nat_lt at terms) x 0
single at x zero = let past : nat_lt at 0 ≡ false = grind (arith, nat_tests) in rw past refl
single at x (suc n) = by (cases_lt at n) (cases_eq at n) (single at x n) where
  f : ℕ → ℕ
  f term_place = cond (at == term_place) x 0

  grown : sum_by (λ term_place. cond (at == term_place) x 0) (range_with_len 0 (suc n)) ≡ sum_by (λ term_place. cond (at == term_place) x 0) (range_with_len 0 n) + cond (at == n) x 0
  grown = let one : n + 1 ≡ suc n = omega arith in rw one at (sum_range_more (λ term_place. cond (at == term_place) x 0) n)

  by : (at < n) ⊎ (n ≤ at) → (at ≡ n) ⊎ (at ≡ n → ⊥) → sum_by (λ term_place. cond (at == term_place) x 0) (range_with_len 0 n) ≡ cond (nat_lt at n) x 0 → sum_by (λ term_place. cond (at == term_place) x 0) (range_with_len 0 (suc n)) ≡ cond (nat_lt at (suc n)) x 0
  by (inl k) e rest =
      let a : nat_lt at n ≡ true = grind (arith, nat_tests) in
      let b : nat_lt at (suc n) ≡ true = grind (arith, nat_tests) in
      let c : (at == n) ≡ false = grind (arith, nat_tests) in
      grown ∙ rw (rest, a, b, c) (omega arith)
  by (inr k) (inl e) rest =
      let a : nat_lt at n ≡ false = grind (arith, nat_tests) in
      let b : nat_lt at (suc n) ≡ true = grind (arith, nat_tests) in
      let c : (at == n) ≡ true = grind (arith, nat_tests) in
      grown ∙ rw (rest, a, b, c) (omega arith)
  by (inr k) (inr e) rest =
      let a : nat_lt at n ≡ false = grind (arith, nat_tests) in
      let b : nat_lt at (suc n) ≡ false = grind (arith, nat_tests) in
      let c : (at == n) ≡ false = grind (arith, nat_tests) in
      grown ∙ rw (rest, a, b, c) (omega arith)

pub by_place : (doc terms : ℕ) (cs : List PlanSegment) → AllByRecursion (λ c. c.term_place < terms) cs → sum_by (gain_of doc) cs ≡ sum_by (λ term_place. sum_by (gain_at doc term_place) cs) (range_with_len 0 terms)
by_place doc terms [] h = sym (sum_zero (range_with_len 0 terms))
by_place doc terms (c ∷ cs) h =
    let within : nat_lt c.term_place terms ≡ true = (let less = h.0 in grind (arith, nat_tests)) in
    let own : sum_by (λ term_place. gain_at doc term_place c) (range_with_len 0 terms) ≡ gain_of doc c = single c.term_place (gain_of doc c) terms ∙ rw within refl in
    let spread : sum_by (λ term_place. sum_by (gain_at doc term_place) (c ∷ cs)) (range_with_len 0 terms) ≡ sum_by (λ term_place. gain_at doc term_place c + sum_by (gain_at doc term_place) cs) (range_with_len 0 terms) =
    ap (λ (f : ℕ → ℕ). sum_by f (range_with_len 0 terms)) (λ i term_place. sum_by-cons (gain_at doc term_place) c cs i) in
    let parts = sum_plus (λ term_place. gain_at doc term_place c) (λ term_place. sum_by (gain_at doc term_place) cs) (range_with_len 0 terms) in
    let rest = by_place doc terms cs h.1 in
    sum_by-cons (gain_of doc) c cs ∙ omega arith

in_places : (from : ℕ) (terms : List QueryTerm) (flat : List (Entry ℕ)) → AllByRecursion (λ p. p.term_place < from + length terms) (weighted_from from terms flat)
in_places from [] flat = tt
in_places from (named ∷ terms) flat = both (filter (λ e. e.term == named.term) flat) (raise (weighted_from (suc from) terms flat) (in_places (suc from) terms flat)) where
  raise : (ps : List WeightedPosting) → AllByRecursion (λ p. p.term_place < suc from + length terms) ps → AllByRecursion (λ p. p.term_place < from + suc (length terms)) ps
  raise [] h = tt
  raise (p ∷ ps) h = (let less = h.0 in omega arith, raise ps h.1)

  both : (es : List (Entry ℕ)) → AllByRecursion (λ p. p.term_place < from + suc (length terms)) (weighted_from (suc from) terms flat) → AllByRecursion (λ p. p.term_place < from + suc (length terms)) (map (weigh from named.times) es ++ weighted_from (suc from) terms flat)
  both [] rest = rest
  both (e ∷ es) rest = (omega arith, both es rest)

-- the places of a plan's segments are those of its terms
pub places_inside : (terms : List QueryTerm) (flat : List (Entry ℕ)) → AllByRecursion (λ c. c.term_place < length terms) (plan_segments (weighted_postings flat terms))
places_inside terms flat = segments_all (λ c. c.term_place < length terms) (λ p. p.term_place < length terms) (λ p h. h) (λ c p e h k. h) (weighted_postings flat terms) (from_zero _ (in_places 0 terms flat)) where
  from_zero : (ps : List WeightedPosting) → AllByRecursion (λ p. p.term_place < 0 + length terms) ps → AllByRecursion (λ p. p.term_place < length terms) ps
  from_zero [] h = tt
  from_zero (p ∷ ps) h = (let less = h.0 in omega arith, from_zero ps h.1)

-- what a document has among the unscored segments is at most the bound
rest_within : (doc docs n : ℕ) (terms : List QueryTerm) (flat : List (Entry ℕ)) → IsFlat nat_cmp docs flat → sum_by (gain_of doc) (drop n (plan_segments (weighted_postings flat terms))) ≤ bound_after n (plan_of docs flat terms)
unfolding plan_of
rest_within doc docs n terms flat f =
    rw (by_place doc (length terms) (drop n segments) (all_drop (λ c. c.term_place < length terms) n segments (places_inside terms flat)))
    (sum_by-le-sum_by (λ term_place. sum_by (gain_at doc term_place) (drop n segments)) (λ term_place. greatest_weight term_place (drop n segments)) (range_with_len 0 (length terms)) (λ term_place. place_gain doc term_place (drop n segments) (few term_place)))
  where
    segments : List PlanSegment
    segments = plan_segments (weighted_postings flat terms)

    few : (term_place : ℕ) → sum_by (count_at doc term_place) (drop n (plan_segments (weighted_postings flat terms))) ≤ 1
    few term_place =
        let all = segments_once doc term_place terms flat (pairs_by_recursion _ flat f.once) in
        omega (arith, sum_by-take-drop (count_at doc term_place) (plan_segments (weighted_postings flat terms)) n)

-- ---- as lists over all documents

pub raised_map : (f g : ℕ → ℕ) (xs : List ℕ) → raised (map f xs) (map g xs) ≡ map (λ x. f x + g x) xs
raised_map f g [] = refl
raised_map f g (x ∷ xs) = ap (λ l. (f x + g x) ∷ l) (raised_map f g xs)

pub same_length : (f g : ℕ → ℕ) (xs : List ℕ) → length (map g xs) ≡ length (map f xs)
same_length f g [] = refl
same_length f g (x ∷ xs) = ap suc (same_length f g xs)

all_mapped : (g : ℕ → ℕ) (bound : ℕ) (xs : List ℕ) → ((x : ℕ) → g x ≤ bound) → AllByRecursion (λ y. y ≤ bound) (map g xs)
all_mapped g bound [] h = tt
all_mapped g bound (x ∷ xs) h = (h x, all_mapped g bound xs h)

-- later scores are earlier ones with gains up to the bound
pub later_scores : (docs n m : ℕ) (terms : List QueryTerm) (flat : List (Entry ℕ)) → IsFlat nat_cmp docs flat → n ≤ m
    → GainsUpTo (bound_after n (plan_of docs flat terms)) (scores_after n (plan_of docs flat terms)) (scores_after m (plan_of docs flat terms))
unfolding plan_of
later_scores docs n m terms flat f h = record {
  gains = map gain (range_with_len 0 docs);
  within = record { each = same_length (score n) gain (range_with_len 0 docs); within = all_mapped gain _ (range_with_len 0 docs) most };
  reach = raised_map (score n) gain (range_with_len 0 docs) ∙ ap (λ (g : ℕ → ℕ). map g (range_with_len 0 docs)) (λ i doc. joins doc i);
}
  where
    segments : List PlanSegment
    segments = plan_segments (weighted_postings flat terms)

    score : ℕ → ℕ → ℕ
    score k doc = sum_by (gain_of doc) (take k (plan_segments (weighted_postings flat terms)))

    gain : ℕ → ℕ
    gain doc = sum_by (gain_of doc) (take (m - n) (drop n (plan_segments (weighted_postings flat terms))))

    most : (doc : ℕ) → sum_by (gain_of doc) (take (m - n) (drop n (plan_segments (weighted_postings flat terms)))) ≤ bound_after n (plan_of docs flat terms)
    most doc = let part = sum_by-take-le (gain_of doc) (drop n (plan_segments (weighted_postings flat terms))) (m - n) in let all = rest_within doc docs n terms flat f in omega arith

    joins : (doc : ℕ) → sum_by (gain_of doc) (take n (plan_segments (weighted_postings flat terms))) + sum_by (gain_of doc) (take (m - n) (drop n (plan_segments (weighted_postings flat terms)))) ≡ sum_by (gain_of doc) (take m (plan_segments (weighted_postings flat terms)))
    joins doc =
        let split = sum_by-take-drop (gain_of doc) (take m (plan_segments (weighted_postings flat terms))) n in
        let front = take-take n m (plan_segments (weighted_postings flat terms)) h in
        let whole : n + (m - n) ≡ m = omega arith in
        let back : drop n (take m (plan_segments (weighted_postings flat terms))) ≡ take (m - n) (drop n (plan_segments (weighted_postings flat terms))) =
        ap (λ k. drop n (take k (plan_segments (weighted_postings flat terms)))) (sym whole) ∙ drop-take n (m - n) (plan_segments (weighted_postings flat terms)) in
        rw (front, back) at split
