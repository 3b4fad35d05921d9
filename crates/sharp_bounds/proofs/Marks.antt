-- Masks that are marked at each posting tell who has a posting, and the next weights of the other terms add up to what is unseen.
use Rattle.shared_lemmas.proofs.Common.{◌≡◌, ◌≢◌, ℕ, zero, suc, ◌+◌, ◌-◌, ◌/◌, ◌^◌, ◌<◌, ◌≤◌, ◌==◌, ◌&&◌, ◌||◌, max, bit_or, bit_and, List, [], ◌∷◌, ◌++◌, length, map, filter, take, drop, get_or, set, replicate, sum_by, slice_get, Some, Bool, true, false, not, cond, refl, sym, ap, subst, ◌∙◌, arith, inl, inr, ◌⊎◌, nat_tests}
use Rattle.shared_lemmas.proofs.Common.{AllByRecursion, list_any, range_with_len, count_by, cases_Bool, cases_eq, eq-eqb, ne_eqb, sum_by-cons, get_or-map-range_with_len, length-map-range_with_len, length-range_with_len, list_any-append, take_more, drop-cons, slice_get_read, slice_get_within, get_or_from_slice_get, get_or-set_same, get_or-set_other, length-set, get_or-replicate, length-replicate, bit_at_or, bit_at-zero, bit_at-lt, fun_ext, ext_get_or, cond-true, cond-false}
use Rattle.std.proofs.lemmas.Nat.Bits.{bit_at-pow_same, bit_at-pow_other, shr_and_one}
use Rattle.std.specs.Int.{bit_at}
use Rattle.ranking_model.specs.declared.plan_segment.PlanSegment.{PlanSegment}
use Rattle.ranking_model.specs.declared.plan.QueryPlan.{QueryPlan}
use Rattle.ranking_model.specs.Scores.{greatest, greatest_weight, bound_after}
use Rattle.accumulator_pages.specs.Adding.{page_count, page_is_touched}
use Rattle.sharp_bounds.specs.Masks.{HasMaskFrame, MasksView, with_place}
use Rattle.sharp_bounds.specs.Unseen.{has_posting, unseen_bound}
use Rattle.sharp_bounds.specs.Marks.{has_place, marked, AreMarkedTo, next_weights, unseen_sum}

-- ---- bits

or_bits : (a b : ℕ) → a < 2 → b < 2 → (max a b == 1) ≡ ((b == 1) || (a == 1))
or_bits zero zero h k = refl
or_bits zero (suc zero) h k = refl
or_bits (suc zero) zero h k = refl
or_bits (suc zero) (suc zero) h k = refl
or_bits (suc (suc a)) b h k = absurd (omega arith)
or_bits zero (suc (suc b)) h k = absurd (omega arith)
or_bits (suc zero) (suc (suc b)) h k = absurd (omega arith)

own_bit : (place q : ℕ) → (bit_at (2 ^ place) q == 1) ≡ (place == q)
own_bit place q = elim (cases_eq place q) [
  | inl is ↦ ap (λ p. bit_at (2 ^ p) q == 1) is ∙ ap (λ b. b == 1) (bit_at-pow_same q) ∙ sym (eq-eqb place q is)
  | inr apart ↦ ap (λ b. b == 1) (bit_at-pow_other place q (λ e. apart (sym e))) ∙ sym (ne_eqb place q apart)
]

pub placed : (mask place q : ℕ) → has_place (with_place mask place) q ≡ ((place == q) || has_place mask q)
placed mask place q = ap (λ b. b == 1) (bit_at_or mask (2 ^ place) q) ∙ or_bits (bit_at mask q) (bit_at (2 ^ place) q) (bit_at-lt mask q) (bit_at-lt (2 ^ place) q)
    ∙ ap (λ b. b || has_place mask q) (own_bit place q)

-- ---- documents

pub length-marked : (place : ℕ) (docs masks : List ℕ) → length (marked place docs masks) ≡ length masks
length-marked place [] masks = refl
length-marked place (d ∷ docs) masks = length-marked place docs (set masks d (with_place (get_or masks d 0) place)) ∙ length-set masks d (with_place (get_or masks d 0) place)

pub marked_parts : (place : ℕ) (docs more masks : List ℕ) → marked place (docs ++ more) masks ≡ marked place more (marked place docs masks)
marked_parts place [] more masks = refl
marked_parts place (d ∷ docs) more masks = marked_parts place docs more (set masks d (with_place (get_or masks d 0) place))

shuffle : (same here later had : Bool) → ((same && later) || (same || had)) ≡ ((same && (true || later)) || had)
shuffle true here later true = elim (cases_Bool later) [ inl t ↦ rw t refl | inr f ↦ rw f refl ]
shuffle true here later false = elim (cases_Bool later) [ inl t ↦ rw t refl | inr f ↦ rw f refl ]
shuffle false here later had = refl

pub bits_marked : (place q doc : ℕ) (docs masks : List ℕ) → doc < length masks
    → has_place (get_or (marked place docs masks) doc 0) q ≡ ((place == q && list_any (λ d. d == doc) docs) || has_place (get_or masks doc 0) q)
bits_marked place q doc [] masks inside = none (place == q) where
  none : (b : Bool) → has_place (get_or masks doc 0) q ≡ ((b && false) || has_place (get_or masks doc 0) q)
  none true = refl
  none false = refl
bits_marked place q doc (d ∷ docs) masks inside =
    bits_marked place q doc docs (set masks d (with_place (get_or masks d 0) place)) (let n = length-set masks d (with_place (get_or masks d 0) place) in omega (arith, inside, n)) ∙ by (cases_eq d doc)
  where
    next : List ℕ
    next = set masks d (with_place (get_or masks d 0) place)

    by : (d ≡ doc) ⊎ (d ≡ doc → ⊥) → ((place == q && list_any (λ d. d == doc) docs) || has_place (get_or next doc 0) q) ≡ ((place == q && ((d == doc) || list_any (λ d. d == doc) docs)) || has_place (get_or masks doc 0) q)
    by (inl is) =
        let t : (d == doc) ≡ true = eq-eqb d doc is in
        let there : get_or next doc 0 ≡ with_place (get_or masks doc 0) place = ap (λ e. get_or (set masks e (with_place (get_or masks e 0) place)) doc 0) is ∙ get_or-set_same masks doc (with_place (get_or masks doc 0) place) 0 inside in
        ap (λ m. (place == q && list_any (λ d. d == doc) docs) || has_place m q) there
        ∙ ap (λ b. (place == q && list_any (λ d. d == doc) docs) || b) (placed (get_or masks doc 0) place q)
        ∙ shuffle (place == q) true (list_any (λ d. d == doc) docs) (has_place (get_or masks doc 0) q)
        ∙ ap (λ b. (place == q && (b || list_any (λ d. d == doc) docs)) || has_place (get_or masks doc 0) q) (sym t)
    by (inr apart) =
        let f : (d == doc) ≡ false = ne_eqb d doc apart in
        ap (λ m. (place == q && list_any (λ d. d == doc) docs) || has_place m q) (get_or-set_other masks d doc (with_place (get_or masks d 0) place) 0 (λ e. apart (sym e)))
        ∙ ap (λ b. (place == q && (b || list_any (λ d. d == doc) docs)) || has_place (get_or masks doc 0) q) (sym f)

-- ---- segments

turned : (a b : Bool) → (a || (b || false)) ≡ (b || a)
turned true true = refl
turned true false = refl
turned false true = refl
turned false false = refl

pub one_more : (n q doc : ℕ) (segments : List PlanSegment) (segment : PlanSegment) → slice_get segments n ≡ Some segment
    → has_posting q doc (take (n + 1) segments) ≡ ((segment.term_place == q && list_any (λ d. d == doc) segment.docs) || has_posting q doc (take n segments))
one_more n q doc segments segment at =
    ap (λ (l : List PlanSegment). has_posting q doc l) (take_more segments n segment (slice_get_within segments n segment at) ∙ ap (λ (s : PlanSegment). take n segments ++ s ∷ []) (get_or_from_slice_get segments n segment segment at))
    ∙ list_any-append (λ (s : PlanSegment). s.term_place == q && list_any (λ d. d == doc) s.docs) (take n segments) (segment ∷ [])
    ∙ turned (has_posting q doc (take n segments)) (segment.term_place == q && list_any (λ d. d == doc) segment.docs)

pub marked_next : (n : ℕ) (plan : QueryPlan) (segment : PlanSegment) (masks : List ℕ) → slice_get plan.segments n ≡ Some segment → AreMarkedTo n plan masks
    → AreMarkedTo (n + 1) plan (marked segment.term_place segment.docs masks)
marked_next n plan segment masks at are = record {
  each = length-marked segment.term_place segment.docs masks ∙ are.each;
  bits = λ doc place inside. bits_marked segment.term_place place doc segment.docs masks (let n = are.each in omega (arith, inside, n))
      ∙ ap (λ b. (segment.term_place == place && list_any (λ d. d == doc) segment.docs) || b) (are.bits doc place inside) ∙ sym (one_more n place doc plan.segments segment at);
}

pub marked_first : (plan : QueryPlan) → AreMarkedTo 0 plan (replicate plan.docs 0)
marked_first plan = record {
  each = length-replicate plan.docs 0;
  bits = λ doc place inside. ap (λ m. has_place m place) (get_or-replicate plan.docs doc 0 0 inside) ∙ ap (λ b. b == 1) (bit_at-zero place);
}

-- ---- sums

pub sums_alike : (f g : ℕ → ℕ) (p : ℕ → Bool) (from n : ℕ) → ((i : ℕ) → i < n → f (from + i) ≡ g (from + i)) → sum_by f (filter p (range_with_len from n)) ≡ sum_by g (filter p (range_with_len from n))
sums_alike f g p from zero same = refl
sums_alike f g p from (suc n) same =
    step (cases_Bool (p from)) (sums_alike f g p (from + 1) n (λ i inside. let e : from + 1 + i ≡ from + suc i = omega arith in rw e (same (suc i) (omega (arith, inside)))))
  where
    here : f from ≡ g from
    here = let e : from + 0 ≡ from = omega arith in subst (λ m. f m ≡ g m) e (same 0 (omega arith))

    step : (p from ≡ true) ⊎ (p from ≡ false) → sum_by f (filter p (range_with_len (from + 1) n)) ≡ sum_by g (filter p (range_with_len (from + 1) n)) → sum_by f (filter p (range_with_len from (suc n))) ≡ sum_by g (filter p (range_with_len from (suc n)))
    step (inl t) rest = rw t (sum_by-cons f from (filter p (range_with_len (from + 1) n)) ∙ (λ i. here i + rest i) ∙ sym (sum_by-cons g from (filter p (range_with_len (from + 1) n))))
    step (inr none) rest = rw none rest

pub unseen_is : (n doc : ℕ) (plan : QueryPlan) (masks : List ℕ) → AreMarkedTo n plan masks → doc < plan.docs → unseen_sum (get_or masks doc 0) (next_weights n plan) ≡ unseen_bound n plan doc
unseen_is n doc plan masks are inside =
    ap (λ m. sum_by (λ i. get_or (next_weights n plan) i 0) (filter (λ place. not (has_place (get_or masks doc 0) place)) (range_with_len 0 m))) many
    ∙ ap (λ (p : ℕ → Bool). sum_by (λ i. get_or (next_weights n plan) i 0) (filter (λ place. not (p place)) (range_with_len 0 plan.terms))) (fun_ext (λ place. are.bits doc place inside))
    ∙ sums_alike (λ i. get_or (next_weights n plan) i 0) (λ term_place. greatest_weight term_place (drop n plan.segments)) (λ place. not (has_posting place doc (take n plan.segments))) 0 plan.terms
    (λ i below. let e : 0 + i ≡ i = omega arith in rw e (get_or-map-range_with_len (λ term_place. greatest_weight term_place (drop n plan.segments)) 0 plan.terms i i 0 below e))
  where
    many : length (next_weights n plan) ≡ plan.terms
    many = length-map-range_with_len (λ term_place. greatest_weight term_place (drop n plan.segments)) 0 plan.terms

-- ---- one weight

sum_same : (f g : ℕ → ℕ) (from n : ℕ) → ((i : ℕ) → i < n → f (from + i) ≡ g (from + i)) → sum_by f (range_with_len from n) ≡ sum_by g (range_with_len from n)
sum_same f g from zero same = refl
sum_same f g from (suc n) same =
    let here : f from ≡ g from = (let e : from + 0 ≡ from = omega arith in subst (λ m. f m ≡ g m) e (same 0 (omega arith))) in
    let rest = sum_same f g (from + 1) n (λ i inside. let e : from + 1 + i ≡ from + suc i = omega arith in rw e (same (suc i) (omega (arith, inside)))) in
    sum_by-cons f from (range_with_len (from + 1) n) ∙ (λ i. here i + rest i) ∙ sym (sum_by-cons g from (range_with_len (from + 1) n))

-- sums that differ at one place differ as the numbers there
sum_but : (f g : ℕ → ℕ) (p from n : ℕ) → ((i : ℕ) → i ≢ p → f i ≡ g i) → from ≤ p → p < from + n → sum_by f (range_with_len from n) + g p ≡ sum_by g (range_with_len from n) + f p
sum_but f g p from zero same low high = absurd (omega (arith, low, high))
sum_but f g p from (suc n) same low high = by (cases_eq from p) (λ apart. sum_but f g p (from + 1) n same (omega (arith, low, apart)) (omega (arith, high))) where
  by : (from ≡ p) ⊎ (from ≡ p → ⊥) → ((from ≡ p → ⊥) → sum_by f (range_with_len (from + 1) n) + g p ≡ sum_by g (range_with_len (from + 1) n) + f p) → sum_by f (range_with_len from (suc n)) + g p ≡ sum_by g (range_with_len from (suc n)) + f p
  by (inl is) later =
      let rest = sum_same f g (from + 1) n (λ i inside. same (from + 1 + i) (λ e. omega (arith, e, is))) in
      let a = sum_by-cons f from (range_with_len (from + 1) n) in let b = sum_by-cons g from (range_with_len (from + 1) n) in
      let c : f from ≡ f p = ap f is in let d : g from ≡ g p = ap g is in
      omega (arith, rest, a, b, c, d)
  by (inr apart) later =
      let a = sum_by-cons f from (range_with_len (from + 1) n) in let b = sum_by-cons g from (range_with_len (from + 1) n) in
      let c : f from ≡ g from = same from apart in
      omega (arith, later apart, a, b, c)

module _ (n : ℕ) (plan : QueryPlan) (segment : PlanSegment) (at : slice_get plan.segments n ≡ Some segment) where
  abbrev before : ℕ → ℕ
  before term_place = greatest_weight term_place (drop n plan.segments)

  abbrev now : ℕ → ℕ
  now term_place = greatest_weight term_place (drop (n + 1) plan.segments)

  others_stay : (t : ℕ) → t ≢ segment.term_place → before t ≡ now t
  others_stay t apart =
      let f : (segment.term_place == t) ≡ false = ne_eqb segment.term_place t (λ e. apart (sym e)) in
      ap (greatest_weight t) (drop-cons plan.segments n segment (slice_get_within plan.segments n segment at) ∙ ap (λ (s : PlanSegment). s ∷ drop (suc n) plan.segments) (get_or_from_slice_get plan.segments n segment segment at) ∙ ap (λ m. segment ∷ drop m plan.segments) next)
      ∙ skipped f
    where
      next : suc n ≡ n + 1
      next = omega arith

      skipped : (segment.term_place == t) ≡ false → greatest_weight t (segment ∷ drop (n + 1) plan.segments) ≡ greatest_weight t (drop (n + 1) plan.segments)
      skipped f = rw f refl

  many_weights : (m : ℕ) → length (next_weights m plan) ≡ plan.terms
  many_weights m = length-map-range_with_len (λ term_place. greatest_weight term_place (drop m plan.segments)) 0 plan.terms

  weight_at : (m t : ℕ) → t < plan.terms → get_or (next_weights m plan) t 0 ≡ greatest_weight t (drop m plan.segments)
  weight_at m t below = get_or-map-range_with_len (λ term_place. greatest_weight term_place (drop m plan.segments)) 0 plan.terms t t 0 below (omega arith)

  pub weight_falls : segment.term_place < plan.terms → bound_after n plan + get_or (next_weights (n + 1) plan) segment.term_place 0 ≡ bound_after (n + 1) plan + get_or (next_weights n plan) segment.term_place 0
  weight_falls inside =
      let a = weight_at n segment.term_place inside in
      let b = weight_at (n + 1) segment.term_place inside in
      let s = sum_but before now segment.term_place 0 plan.terms others_stay (omega arith) (omega (arith, inside)) in
      omega (arith, a, b, s)

  pub weight_least : segment.term_place < plan.terms → get_or (next_weights (n + 1) plan) segment.term_place 0 ≤ get_or (next_weights n plan) segment.term_place 0
  weight_least inside = omega (arith, weight_at n segment.term_place inside, weight_at (n + 1) segment.term_place inside, whole) where
    cut : drop n plan.segments ≡ segment ∷ drop (n + 1) plan.segments
    cut =
        let next : suc n ≡ n + 1 = omega arith in
        drop-cons plan.segments n segment (slice_get_within plan.segments n segment at) ∙ ap (λ (s : PlanSegment). s ∷ drop (suc n) plan.segments) (get_or_from_slice_get plan.segments n segment segment at)
        ∙ ap (λ m. segment ∷ drop m plan.segments) next

    whole : now segment.term_place ≤ before segment.term_place
    whole = subst (λ (l : List PlanSegment). now segment.term_place ≤ greatest_weight segment.term_place l) (sym cut) (more (segment.term_place == segment.term_place)) where
      more : (b : Bool) → now segment.term_place ≤ greatest (map (λ (s : PlanSegment). s.weight) (cond b (segment ∷ filter (λ (s : PlanSegment). s.term_place == segment.term_place) (drop (n + 1) plan.segments)) (filter (λ (s : PlanSegment). s.term_place == segment.term_place) (drop (n + 1) plan.segments))))
      more true = omega arith
      more false = omega arith

  pub one_weight : (weight : ℕ) → segment.term_place < plan.terms → bound_after n plan + weight ≡ bound_after (n + 1) plan + get_or (next_weights n plan) segment.term_place 0
      → next_weights (n + 1) plan ≡ set (next_weights n plan) segment.term_place weight
  one_weight weight inside falls = ext_get_or 0 (next_weights (n + 1) plan) (set (next_weights n plan) segment.term_place weight) lengths same where
    lengths : length (next_weights (n + 1) plan) ≡ length (set (next_weights n plan) segment.term_place weight)
    lengths = many_weights (n + 1) ∙ sym (length-set (next_weights n plan) segment.term_place weight ∙ many_weights n)

    is_weight : now segment.term_place ≡ weight
    is_weight =
        let r = weight_at n segment.term_place inside in
        let s = sum_but before now segment.term_place 0 plan.terms others_stay (omega arith) (omega (arith, inside)) in
        omega (arith, falls, r, s)

    same : (t : ℕ) → t < length (next_weights (n + 1) plan) → get_or (next_weights (n + 1) plan) t 0 ≡ get_or (set (next_weights n plan) segment.term_place weight) t 0
    same t below = by (cases_eq t segment.term_place) where
      within : t < plan.terms
      within = omega (arith, below, many_weights (n + 1))

      by : (t ≡ segment.term_place) ⊎ (t ≡ segment.term_place → ⊥) → get_or (next_weights (n + 1) plan) t 0 ≡ get_or (set (next_weights n plan) segment.term_place weight) t 0
      by (inl is) = weight_at (n + 1) t within ∙ ap now is ∙ is_weight ∙ sym (ap (λ i. get_or (set (next_weights n plan) segment.term_place weight) i 0) is ∙ get_or-set_same (next_weights n plan) segment.term_place weight 0 (omega (arith, inside, many_weights n)))
      by (inr apart) = weight_at (n + 1) t within ∙ sym (get_or-set_other (next_weights n plan) segment.term_place t weight 0 apart ∙ weight_at n t within ∙ others_stay t apart)

-- ---- a sum place by place

pub weight_next : (mask place : ℕ) (weights : List ℕ) → place < length weights
    → sum_by (λ i. get_or weights i 0) (filter (λ p. not (has_place mask p)) (range_with_len place (length weights - place)))
    ≡ cond (has_place mask place) 0 (get_or weights place 0) + sum_by (λ i. get_or weights i 0) (filter (λ p. not (has_place mask p)) (range_with_len (place + 1) (length weights - (place + 1))))
weight_next mask place weights inside = ap (λ n. sum_by (λ i. get_or weights i 0) (filter (λ p. not (has_place mask p)) (range_with_len place n))) more ∙ by (cases_Bool (has_place mask place)) where
  more : length weights - place ≡ suc (length weights - (place + 1))
  more = omega (arith, inside)

  later : List ℕ
  later = filter (λ p. not (has_place mask p)) (range_with_len (place + 1) (length weights - (place + 1)))

  by : (has_place mask place ≡ true) ⊎ (has_place mask place ≡ false) → sum_by (λ i. get_or weights i 0) (filter (λ p. not (has_place mask p)) (place ∷ range_with_len (place + 1) (length weights - (place + 1))))
      ≡ cond (has_place mask place) 0 (get_or weights place 0) + sum_by (λ i. get_or weights i 0) later
  by (inl t) = rw t (omega arith)
  by (inr f) = rw f (sum_by-cons (λ i. get_or weights i 0) place later)

pub none_behind_all : (mask place : ℕ) (weights : List ℕ) → length weights ≤ place → sum_by (λ i. get_or weights i 0) (filter (λ p. not (has_place mask p)) (range_with_len place (length weights - place))) ≡ 0
none_behind_all mask place weights past = let none : length weights - place ≡ 0 = omega (arith, past) in ap (λ n. sum_by (λ i. get_or weights i 0) (filter (λ p. not (has_place mask p)) (range_with_len place n))) none

pub bit_set : (mask place weight : ℕ) → bit_and (mask / 2 ^ place) 1 ≡ 1 → 0 ≡ cond (has_place mask place) 0 weight
bit_set mask place weight is = let t : has_place mask place ≡ true = eq-eqb (bit_at mask place) 1 (sym (shr_and_one mask place) ∙ is) in rw t refl

pub bit_clear : (mask place weight : ℕ) → bit_and (mask / 2 ^ place) 1 ≢ 1 → weight ≡ cond (has_place mask place) 0 weight
bit_clear mask place weight isnt = let f : has_place mask place ≡ false = ne_eqb (bit_at mask place) 1 (λ e. isnt (shr_and_one mask place ∙ e)) in rw f refl

-- ---- frames

worth_one : (b : Bool) → cond b 1 0 ≤ 1
worth_one true = omega arith
worth_one false = omega arith

count_few : (p : ℕ → Bool) (from n : ℕ) → count_by p (range_with_len from n) ≤ n
count_few p from zero = omega arith
count_few p from (suc n) = omega (arith, sum_by-cons (λ x. cond (p x) 1 0) from (range_with_len (from + 1) n), worth_one (p from), count_few p (from + 1) n)

count_less : (p : ℕ → Bool) (from n i : ℕ) → i < n → p (from + i) ≡ false → count_by p (range_with_len from n) < n
count_less p from zero i inside none = absurd (omega (arith, inside))
count_less p from (suc n) zero inside none = omega (arith, sum_by-cons (λ x. cond (p x) 1 0) from (range_with_len (from + 1) n), few, zero_here) where
  few : count_by p (range_with_len (from + 1) n) ≤ n
  few = count_few p (from + 1) n

  zero_here : ◌≡◌ {A = ℕ} (cond (p from) 1 0) 0
  zero_here = let e : from + 0 ≡ from = omega arith in ap (λ b. cond {A = ℕ} b 1 0) (subst (λ m. p m ≡ false) e none)
count_less p from (suc n) (suc i) inside none = omega (
  arith,
  sum_by-cons (λ x. cond (p x) 1 0) from (range_with_len (from + 1) n),
  worth_one (p from),
  count_less p (from + 1) n i (omega (arith, inside)) (let e : from + suc i ≡ from + 1 + i = omega arith in subst (λ m. p m ≡ false) e none),
)

pub frame_for_each : (view : MasksView) (doc : ℕ) → page_count (length view.masks) ≤ view.frames → doc < length view.masks → HasMaskFrame view (doc / 256)
frame_for_each view doc enough inside vacant =
    let less = count_less (page_is_touched view.masks) 0 (page_count (length view.masks)) (doc / 256) (omega (arith, inside)) (let e : doc / 256 ≡ 0 + doc / 256 = omega arith in subst (λ m. page_is_touched view.masks m ≡ false) e vacant) in
    omega (arith, less, enough)
