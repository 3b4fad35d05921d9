-- What a document may still reach never rises from segment to segment: a term has one posting of it at most.
use Rattle.shared_lemmas.proofs.Common.{◌≡◌, ℕ, ◌+◌, ◌-◌, ◌*◌, ◌<◌, ◌≤◌, ◌==◌, ◌&&◌, ◌||◌, List, [], ◌∷◌, ◌++◌, length, take, drop, get_or, Bool, true, false, true≢false, not, cond, refl, sym, ap, subst, ◌∙◌, arith, inl, inr, ◌⊎◌, sum_by, count_by}
use Rattle.shared_lemmas.proofs.Common.{AllByRecursion, list_any, range_with_len, nat_cmp, cases_Bool, sum_by-cons, sum_by-append, sum_by-take-le, sum_by-le-sum_by, take-take, take-add, take-append-drop, drop-drop, mul-le-mul, recursion_from_All, get_or-map-range_with_len, length-map-range_with_len}
use Rattle.ranking_model.specs.declared.entry.Entry.{Entry}
use Rattle.jass_base.specs.declared.query_term.QueryTerm.{QueryTerm}
use Rattle.ranking_model.specs.declared.plan_segment.PlanSegment.{PlanSegment}
use Rattle.ranking_model.specs.declared.plan.QueryPlan.{QueryPlan}
use Rattle.ranking_model.specs.Flat.{IsFlat}
use Rattle.ranking_model.specs.Postings.{AreTerms, weighted_postings}
use Rattle.ranking_model.specs.Plan.{plan_of}
use Rattle.ranking_model.specs.Scores.{gain_of, greatest_weight, bound_after, scores_after}
use Rattle.shared_lemmas.proofs.Pairs.{pairs_by_recursion}
use Rattle.shared_lemmas.proofs.Lists.{all_of, all_take, all_map, filter_all}
use Rattle.ranking_model.proofs.Rest.{count_at, gain_at, segments_once, none_at, place_gain, sum_plus, by_place, places_inside}
use Rattle.ranking_model.proofs.Weighing.{weighted_all, for_each}
use Rattle.ranking_model.proofs.Grouping.{segments_all}
use Rattle.final_certificate.proofs.Lists.{sum_by-filter}
use Rattle.sharp_bounds.specs.Unseen.{has_posting, unseen_bound, unseen_bounds}
use Rattle.sharp_bounds.specs.Rule.{AreLimits}

-- ---- whether there is a posting, and how many there are

-- the answer is true exactly where there is one
abbrev Tells : Bool → ℕ → Type 0
Tells b n = (b ≡ true → 1 ≤ n) × (b ≡ false → n ≡ 0)

tells_one : (b : Bool) → Tells b (cond b 1 0)
tells_one true = ((λ e. omega arith), (λ e. absurd (true≢false e)))
tells_one false = ((λ e. absurd (true≢false (sym e))), (λ e. refl))

tells_or : (a b : Bool) (m n : ℕ) → Tells a m → Tells b n → Tells (a || b) (m + n)
tells_or true b m n h k = ((λ e. let x = h.0 refl in omega arith), (λ e. absurd (true≢false e)))
tells_or false b m n h k = ((λ e. let x = k.0 e in omega arith), (λ e. let x = h.1 refl in let y = k.1 e in omega arith))

tells_and : (a b : Bool) (n : ℕ) → Tells b n → Tells (a && b) (cond a n 0)
tells_and true b n h = h
tells_and false b n h = ((λ e. absurd (true≢false (sym e))), (λ e. refl))

document_tells : (doc : ℕ) (ds : List ℕ) → Tells (list_any (λ d. d == doc) ds) (count_by (λ d. d == doc) ds)
document_tells doc [] = ((λ e. absurd (true≢false (sym e))), (λ e. refl))
document_tells doc (d ∷ ds) = subst (Tells (list_any (λ d. d == doc) (d ∷ ds))) (sym (sum_by-cons (λ x. cond (x == doc) 1 0) d ds))
    (tells_or (d == doc) (list_any (λ d. d == doc) ds) (cond (d == doc) 1 0) (count_by (λ d. d == doc) ds) (tells_one (d == doc)) (document_tells doc ds))

pub posting_tells : (term_place doc : ℕ) (cs : List PlanSegment) → Tells (has_posting term_place doc cs) (sum_by (count_at doc term_place) cs)
posting_tells term_place doc [] = ((λ e. absurd (true≢false (sym e))), (λ e. refl))
posting_tells term_place doc (c ∷ cs) = subst (Tells (has_posting term_place doc (c ∷ cs))) (sym (sum_by-cons (count_at doc term_place) c cs))
    (tells_or (c.term_place == term_place && list_any (λ d. d == doc) c.docs) (has_posting term_place doc cs) (count_at doc term_place c) (sum_by (count_at doc term_place) cs)
    (tells_and (c.term_place == term_place) (list_any (λ d. d == doc) c.docs) (count_by (λ d. d == doc) c.docs) (document_tells doc c.docs)) (posting_tells term_place doc cs))

-- ---- one term

greatest_left : (term_place : ℕ) (xs ys : List PlanSegment) → greatest_weight term_place xs ≤ greatest_weight term_place (xs ++ ys)
greatest_left term_place [] ys = omega arith
greatest_left term_place (x ∷ xs) ys = let rest = greatest_left term_place xs ys in elim (cases_Bool (x.term_place == term_place)) [ inl t ↦ rw t (omega arith) | inr f ↦ rw f rest ]

greatest_right : (term_place : ℕ) (xs ys : List PlanSegment) → greatest_weight term_place ys ≤ greatest_weight term_place (xs ++ ys)
greatest_right term_place [] ys = omega arith
greatest_right term_place (x ∷ xs) ys = let rest = greatest_right term_place xs ys in elim (cases_Bool (x.term_place == term_place)) [ inl t ↦ rw t (omega arith) | inr f ↦ rw f rest ]

-- what a term may still give, where some segments are scored
abbrev unseen_at : ℕ → ℕ → List PlanSegment → List PlanSegment → ℕ
unseen_at doc term_place seen rest = cond (not (has_posting term_place doc seen)) (greatest_weight term_place rest) 0

place_reach : (doc term_place : ℕ) (xs ys zs : List PlanSegment) → sum_by (count_at doc term_place) (xs ++ (ys ++ zs)) ≤ 1
    → sum_by (gain_at doc term_place) (xs ++ ys) + unseen_at doc term_place (xs ++ ys) zs ≤ sum_by (gain_at doc term_place) xs + unseen_at doc term_place xs (ys ++ zs)
place_reach doc term_place xs ys zs few = by (cases_Bool (has_posting term_place doc xs)) (cases_Bool (has_posting term_place doc (xs ++ ys))) where
  counts : sum_by (count_at doc term_place) xs + (sum_by (count_at doc term_place) ys + sum_by (count_at doc term_place) zs) ≤ 1
  counts = let a = sum_by-append (count_at doc term_place) xs (ys ++ zs) in let b = sum_by-append (count_at doc term_place) ys zs in omega arith

  front : sum_by (count_at doc term_place) (xs ++ ys) ≡ sum_by (count_at doc term_place) xs + sum_by (count_at doc term_place) ys
  front = sum_by-append (count_at doc term_place) xs ys

  gains : sum_by (gain_at doc term_place) (xs ++ ys) ≡ sum_by (gain_at doc term_place) xs + sum_by (gain_at doc term_place) ys
  gains = sum_by-append (gain_at doc term_place) xs ys

  by : (has_posting term_place doc xs ≡ true) ⊎ (has_posting term_place doc xs ≡ false) → (has_posting term_place doc (xs ++ ys) ≡ true) ⊎ (has_posting term_place doc (xs ++ ys) ≡ false)
      → sum_by (gain_at doc term_place) (xs ++ ys) + unseen_at doc term_place (xs ++ ys) zs ≤ sum_by (gain_at doc term_place) xs + unseen_at doc term_place xs (ys ++ zs)
  by (inl s) (inl t) =
      let n = (posting_tells term_place doc xs).0 s in
      let none = none_at doc term_place ys (omega (arith, counts, n)) in
      rw (s, t, gains, none) (omega arith)
  by (inl s) (inr f) =
      let n = (posting_tells term_place doc xs).0 s in
      let z = (posting_tells term_place doc (xs ++ ys)).1 f in
      absurd (omega (arith, front, n, z))
  by (inr f) (inl t) =
      let z = (posting_tells term_place doc xs).1 f in
      let none = none_at doc term_place xs z in
      let most = place_gain doc term_place ys (omega (arith, counts)) in
      let left = greatest_left term_place ys zs in
      rw (f, t, gains, none) (omega (arith, most, left))
  by (inr f) (inr g) =
      let z = (posting_tells term_place doc (xs ++ ys)).1 g in
      let none = none_at doc term_place ys (omega (arith, front, z)) in
      let right = greatest_right term_place ys zs in
      rw (f, g, gains, none) (omega (arith, right))

place_falls : (doc term_place : ℕ) (cs xs ys zs seen rest : List PlanSegment) → xs ++ ys ≡ seen → ys ++ zs ≡ rest → xs ++ rest ≡ cs → sum_by (count_at doc term_place) cs ≤ 1
    → sum_by (gain_at doc term_place) seen + unseen_at doc term_place seen zs ≤ sum_by (gain_at doc term_place) xs + unseen_at doc term_place xs rest
place_falls doc term_place cs xs ys zs seen rest e f g few =
    subst (λ u. sum_by (gain_at doc term_place) u + unseen_at doc term_place u zs ≤ sum_by (gain_at doc term_place) xs + unseen_at doc term_place xs rest) e
    (subst (λ v. sum_by (gain_at doc term_place) (xs ++ ys) + unseen_at doc term_place (xs ++ ys) zs ≤ sum_by (gain_at doc term_place) xs + unseen_at doc term_place xs v) f
    (place_reach doc term_place xs ys zs (subst (λ w. sum_by (count_at doc term_place) w ≤ 1) (sym (ap (λ v. xs ++ v) f ∙ g)) few)))

-- ---- all terms

-- a plan in which a document stands at most once in a term
pub record IsOnce (plan : QueryPlan) : Type 0 where
  pub places : AllByRecursion (λ c. c.term_place < plan.terms) plan.segments
  pub once : (doc term_place : ℕ) → sum_by (count_at doc term_place) plan.segments ≤ 1

pub plan_once : (docs : ℕ) (flat : List (Entry ℕ)) (terms : List QueryTerm) → IsFlat nat_cmp docs flat → IsOnce (plan_of docs flat terms)
unfolding plan_of
plan_once docs flat terms f = record { places = places_inside terms flat; once = λ doc term_place. segments_once doc term_place terms flat (pairs_by_recursion _ flat f.once) }

-- what a document has and what it may still gain
abbrev pub reach_at : ℕ → QueryPlan → ℕ → ℕ
reach_at n plan doc = sum_by (gain_of doc) (take n plan.segments) + unseen_bound n plan doc

by_terms : (plan : QueryPlan) → IsOnce plan → (n doc : ℕ) → reach_at n plan doc
    ≡ sum_by (λ term_place. sum_by (gain_at doc term_place) (take n plan.segments) + unseen_at doc term_place (take n plan.segments) (drop n plan.segments)) (range_with_len 0 plan.terms)
by_terms plan is n doc =
    let a = by_place doc plan.terms (take n plan.segments) (all_take (λ c. c.term_place < plan.terms) n plan.segments is.places) in
    let b = sum_by-filter (λ term_place. not (has_posting term_place doc (take n plan.segments))) (λ term_place. greatest_weight term_place (drop n plan.segments)) (range_with_len 0 plan.terms) in
    let c = sum_plus (λ term_place. sum_by (gain_at doc term_place) (take n plan.segments)) (λ term_place. unseen_at doc term_place (take n plan.segments) (drop n plan.segments)) (range_with_len 0 plan.terms) in
    omega arith

pub reach_falls : (plan : QueryPlan) → IsOnce plan → (n m doc : ℕ) → n ≤ m → reach_at m plan doc ≤ reach_at n plan doc
reach_falls plan is n m doc more = rw (by_terms plan is n doc, by_terms plan is m doc)
    (sum_by-le-sum_by (λ term_place. sum_by (gain_at doc term_place) (take m plan.segments) + unseen_at doc term_place (take m plan.segments) (drop m plan.segments))
    (λ term_place. sum_by (gain_at doc term_place) (take n plan.segments) + unseen_at doc term_place (take n plan.segments) (drop n plan.segments)) (range_with_len 0 plan.terms) at)
  where
    whole : n + (m - n) ≡ m
    whole = omega arith

    seen : take n plan.segments ++ take (m - n) (drop n plan.segments) ≡ take m plan.segments
    seen = sym (take-add n (m - n) plan.segments) ∙ ap (λ i. take i plan.segments) whole

    rest : take (m - n) (drop n plan.segments) ++ drop m plan.segments ≡ drop n plan.segments
    rest = ap (λ (l : List PlanSegment). take (m - n) (drop n plan.segments) ++ l) (sym (drop-drop (m - n) n plan.segments ∙ ap (λ i. drop i plan.segments) whole)) ∙ take-append-drop (m - n) (drop n plan.segments)

    at : (term_place : ℕ) → sum_by (gain_at doc term_place) (take m plan.segments) + unseen_at doc term_place (take m plan.segments) (drop m plan.segments)
        ≤ sum_by (gain_at doc term_place) (take n plan.segments) + unseen_at doc term_place (take n plan.segments) (drop n plan.segments)
    at term_place = place_falls doc term_place plan.segments (take n plan.segments) (take (m - n) (drop n plan.segments)) (drop m plan.segments) (take m plan.segments) (drop n plan.segments) seen rest
        (take-append-drop n plan.segments) (is.once doc term_place)

pub score_rises : (plan : QueryPlan) (n m doc : ℕ) → n ≤ m → sum_by (gain_of doc) (take n plan.segments) ≤ sum_by (gain_of doc) (take m plan.segments)
score_rises plan n m doc more = let e = take-take n m plan.segments more in let less = sum_by-take-le (gain_of doc) (take m plan.segments) n in rw e at less

-- ---- the bound

unseen_least : (n doc : ℕ) (plan : QueryPlan) → unseen_bound n plan doc ≤ bound_after n plan
unseen_least n doc plan =
    let b = sum_by-filter (λ term_place. not (has_posting term_place doc (take n plan.segments))) (λ term_place. greatest_weight term_place (drop n plan.segments)) (range_with_len 0 plan.terms) in
    let less = sum_by-le-sum_by (λ term_place. unseen_at doc term_place (take n plan.segments) (drop n plan.segments)) (λ term_place. greatest_weight term_place (drop n plan.segments)) (range_with_len 0 plan.terms) (λ term_place. part (not (has_posting term_place doc (take n plan.segments))) (greatest_weight term_place (drop n plan.segments))) in
    omega arith
  where
    part : (b : Bool) (x : ℕ) → cond b x 0 ≤ x
    part true x = omega arith
    part false x = omega arith

pub unseen_within : (n : ℕ) (plan : QueryPlan) → AllByRecursion (λ limit. limit ≤ bound_after n plan) (unseen_bounds n plan)
unseen_within n plan = all_map (λ limit. limit ≤ bound_after n plan) (λ doc. unseen_bound n plan doc) (range_with_len 0 plan.docs) (all_of (λ doc. unseen_bound n plan doc ≤ bound_after n plan) (λ doc. unseen_least n doc plan) (range_with_len 0 plan.docs))

-- a document without a score has been seen in no term
never_seen : (term_place doc : ℕ) (cs : List PlanSegment) → AllByRecursion (λ c. 1 ≤ c.weight) cs → sum_by (gain_of doc) cs ≡ 0 → has_posting term_place doc cs ≡ false
never_seen term_place doc [] h none = refl
never_seen term_place doc (c ∷ cs) h none = rw (absent (cases_Bool (list_any (λ d. d == doc) c.docs)), never_seen term_place doc cs h.1 (omega (arith, parts))) (nothing (c.term_place == term_place)) where
  parts : gain_of doc c + sum_by (gain_of doc) cs ≡ 0
  parts = sym (sum_by-cons (gain_of doc) c cs) ∙ none

  nothing : (b : Bool) → ((b && false) || false) ≡ false
  nothing true = refl
  nothing false = refl

  absent : (list_any (λ d. d == doc) c.docs ≡ true) ⊎ (list_any (λ d. d == doc) c.docs ≡ false) → list_any (λ d. d == doc) c.docs ≡ false
  absent (inr f) = f
  absent (inl t) = let n = (document_tells doc c.docs).0 t in let more = mul-le-mul h.0 n in absurd (omega (arith, parts, more))

pub whole_bound : (n doc : ℕ) (plan : QueryPlan) → AllByRecursion (λ c. 1 ≤ c.weight) plan.segments → sum_by (gain_of doc) (take n plan.segments) ≡ 0 → unseen_bound n plan doc ≡ bound_after n plan
whole_bound n doc plan weights none = ap (sum_by (λ term_place. greatest_weight term_place (drop n plan.segments)))
    (filter_all (λ term_place. not (has_posting term_place doc (take n plan.segments))) (range_with_len 0 plan.terms) (all_of (λ term_place. not (has_posting term_place doc (take n plan.segments)) ≡ true)
    (λ term_place. ap not (never_seen term_place doc (take n plan.segments) (all_take (λ c. 1 ≤ c.weight) n plan.segments weights) none)) (range_with_len 0 plan.terms)))

pub plan_weights : (docs : ℕ) (flat : List (Entry ℕ)) (terms : List QueryTerm) → IsFlat nat_cmp docs flat → AreTerms terms → AllByRecursion (λ c. 1 ≤ c.weight) (plan_of docs flat terms).segments
unfolding plan_of
plan_weights docs flat terms f t = segments_all (λ c. 1 ≤ c.weight) (λ p. 1 ≤ p.weight) (λ p h. h) (λ c p e h k. h) (weighted_postings flat terms) (weighted_all (λ p. 1 ≤ p.weight) 0 terms flat (λ term_place.
    for_each (λ (named : QueryTerm) (e : Entry ℕ). 1 ≤ e.impact * named.times) (λ (named : QueryTerm). 1 ≤ named.times) (λ (e : Entry ℕ). (1 ≤ e.impact) × (e.impact ≤ 65535)) terms flat
    (λ named e a b. mul-le-mul b.0 a) (recursion_from_All _ terms t.named) (recursion_from_All _ flat f.impacts)))

-- the parts of the bound are limits of the scores
pub are_limits : (n : ℕ) (plan : QueryPlan) → AllByRecursion (λ c. 1 ≤ c.weight) plan.segments → AreLimits (bound_after n plan) (scores_after n plan) (unseen_bounds n plan)
are_limits n plan weights = record {
  each = length-map-range_with_len (λ doc. unseen_bound n plan doc) 0 plan.docs ∙ sym docs;
  within = unseen_within n plan;
  untouched = λ doc inside none. whole doc (let d = docs in omega arith) none;
}
  where
    docs : length (scores_after n plan) ≡ plan.docs
    docs = length-map-range_with_len (λ doc. sum_by (gain_of doc) (take n plan.segments)) 0 plan.docs

    whole : (doc : ℕ) → doc < plan.docs → get_or (scores_after n plan) doc 0 ≡ 0 → get_or (unseen_bounds n plan) doc 0 ≡ bound_after n plan
    whole doc inside none =
        let score = get_or-map-range_with_len (λ doc. sum_by (gain_of doc) (take n plan.segments)) 0 plan.docs doc doc 0 inside (omega arith) in
        get_or-map-range_with_len (λ doc. unseen_bound n plan doc) 0 plan.docs doc doc 0 inside (omega arith) ∙ whole_bound n doc plan weights (sym score ∙ none)
