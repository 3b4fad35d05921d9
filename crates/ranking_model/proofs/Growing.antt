-- One segment more, one grant more, a prefix that is resumed, and a sort through a map.
use Rattle.shared_lemmas.proofs.Common.{◌≡◌, ℕ, zero, suc, ◌+◌, ◌-◌, ◌*◌, ◌<◌, ◌≤◌, ◌==◌, min, List, [], ◌∷◌, ◌++◌, map, length, take, drop, get_or, set, sum_by, count_by, ◌^◌, Bool, true, false, cond, refl, sym, ap, subst, ◌∙◌, arith, inl, inr, ◌⊎◌, Some, eq-eqb, get_or-set_same, get_or-set_other}
use Rattle.shared_lemmas.proofs.Common.{All, slice_get, ⊤, Ordering, is_gt, nat_cmp, cases_lt, cases_eq, nat_tests, ext_get_or, get_or_default, length-drop, recursion_from_All, All-from_recursion, length-map-range_with_len, get_or-map-range_with_len, sum_by-cons, sum_by-append, sum_by_push}
use Rattle.shared_lemmas.proofs.Common.{mul-le-mul, take-add, AllByRecursion}
use Rattle.std.proofs.lemmas.List.{length-set}
use Rattle.std.proofs.Math.Seq.{drop-cons}
use Rattle.jass_base.specs.declared.answer.Budget.{Budget}
use Rattle.jass_base.specs.declared.query_term.QueryTerm.{QueryTerm}
use Rattle.ranking_model.specs.declared.entry.Entry.{Entry}
use Rattle.ranking_model.specs.declared.plan_segment.PlanSegment.{PlanSegment}
use Rattle.ranking_model.specs.declared.plan.QueryPlan.{QueryPlan}
use Rattle.ranking_model.specs.Flat.{IsFlat}
use Rattle.ranking_model.specs.Order.{placed, sorted}
use Rattle.ranking_model.specs.Postings.{weighted_postings}
use Rattle.ranking_model.specs.Programs.{AreLight}
use Rattle.ranking_model.specs.Plan.{size_of_first, prefix_within, most, amount_of, granted_with, granted_sum}
use Rattle.ranking_model.specs.Limits.{IsSmall}
use Rattle.ranking_model.specs.Scores.{gain_of, added, scores_after}
use Rattle.ranking_model.specs.Search.{prefix_granted, prefixes_granted}
use Rattle.ranking_model.proofs.Totals.{prefix_is}
use Rattle.ranking_model.proofs.Parting.{prefix_there, prefix_fits, prefix_longest}
use Rattle.ranking_model.proofs.Weighing.{weighted_all, for_each}
use Rattle.ranking_model.proofs.Sorting.{all_sorted}
use Rattle.shared_lemmas.proofs.Lists.{all_of}

-- ---- one segment more

pub length-added : (weight : ℕ) (docs scores : List ℕ) → length (added weight docs scores) ≡ length scores
length-added weight [] scores = refl
length-added weight (doc ∷ docs) scores = length-added weight docs (set scores doc (get_or scores doc 0 + weight)) ∙ length-set scores doc (get_or scores doc 0 + weight)

added_at : (weight : ℕ) (docs scores : List ℕ) (d : ℕ) → d < length scores → get_or (added weight docs scores) d 0 ≡ get_or scores d 0 + weight * count_by (λ x. x == d) docs
added_at weight [] scores d inside = omega arith
added_at weight (doc ∷ docs) scores d inside =
    added_at weight docs (set scores doc (get_or scores doc 0 + weight)) d (let n = length-set scores doc (get_or scores doc 0 + weight) in omega arith) ∙ by (cases_eq doc d)
  where
    split : count_by (λ x. x == d) (doc ∷ docs) ≡ cond (doc == d) 1 0 + count_by (λ x. x == d) docs
    split = sum_by-cons (λ x. cond (x == d) 1 0) doc docs

    by : (doc ≡ d) ⊎ (doc ≡ d → ⊥) → get_or (set scores doc (get_or scores doc 0 + weight)) d 0 + weight * count_by (λ x. x == d) docs ≡ get_or scores d 0 + weight * count_by (λ x. x == d) (doc ∷ docs)
    by (inl e) =
        let t : (doc == d) ≡ true = eq-eqb doc d e in
        let here : get_or (set scores doc (get_or scores doc 0 + weight)) d 0 ≡ get_or scores d 0 + weight =
        ap (λ n. get_or (set scores doc (get_or scores doc 0 + weight)) n 0) (sym e) ∙ get_or-set_same scores doc (get_or scores doc 0 + weight) 0 (omega arith) ∙ ap (λ n. get_or scores n 0 + weight) e in
        let more : weight * (1 + count_by (λ x. x == d) docs) ≡ weight + weight * count_by (λ x. x == d) docs = omega arith in
        rw (split, t, here, more) (omega arith)
    by (inr apart) =
        let f : (doc == d) ≡ false = grind (arith, nat_tests) in
        let there = get_or-set_other scores doc d (get_or scores doc 0 + weight) 0 (λ e. apart (sym e)) in
        rw (split, f, there) (omega arith)

pub added_parts : (weight : ℕ) (docs more scores : List ℕ) → added weight (docs ++ more) scores ≡ added weight more (added weight docs scores)
added_parts weight [] more scores = refl
added_parts weight (doc ∷ docs) more scores = added_parts weight docs more (set scores doc (get_or scores doc 0 + weight))

take_more : {A : Type 0} (xs : List A) (n : ℕ) (x : A) → slice_get xs n ≡ Some x → take (n + 1) xs ≡ take n xs ++ x ∷ []
take_more [] n x is = absurd (cc)
take_more (y ∷ ys) zero x is = let e : y ≡ x = cc in λ i. e i ∷ []
take_more (y ∷ ys) (suc n) x is = let one : suc n + 1 ≡ suc (n + 1) = omega arith in rw one (ap (λ l. y ∷ l) (take_more ys n x is))

pub segment_added : (n : ℕ) (plan : QueryPlan) (segment : PlanSegment) → slice_get plan.segments n ≡ Some segment → scores_after (n + 1) plan ≡ added segment.weight segment.docs (scores_after n plan)
segment_added n plan segment is = ext_get_or 0 (scores_after (n + 1) plan) (added segment.weight segment.docs (scores_after n plan)) (long (n + 1) ∙ sym (long n) ∙ sym (length-added segment.weight segment.docs (scores_after n plan))) each where
  long : (m : ℕ) → length (scores_after m plan) ≡ plan.docs
  long m = length-map-range_with_len (λ doc. sum_by (gain_of doc) (take m plan.segments)) 0 plan.docs

  score : (m d : ℕ) → d < plan.docs → get_or (scores_after m plan) d 0 ≡ sum_by (gain_of d) (take m plan.segments)
  score m d inside = get_or-map-range_with_len (λ doc. sum_by (gain_of doc) (take m plan.segments)) 0 plan.docs d d 0 inside (omega arith)

  each : (d : ℕ) → d < length (scores_after (n + 1) plan) → get_or (scores_after (n + 1) plan) d 0 ≡ get_or (added segment.weight segment.docs (scores_after n plan)) d 0
  each d inside =
      let within : d < plan.docs = (let a = long (n + 1) in omega arith) in
      let before : d < length (scores_after n plan) = (let a = long n in omega arith) in
      score (n + 1) d within ∙ ap (sum_by (gain_of d)) (take_more plan.segments n segment is) ∙ sum_by_push (gain_of d) (take n plan.segments) segment
      ∙ ap (λ s. s + gain_of d segment) (sym (score n d within)) ∙ sym (added_at segment.weight segment.docs (scores_after n plan) d before)

pub scores_small : (n : ℕ) (plan : QueryPlan) → IsSmall plan → All (λ score. score < 2 ^ 32) (scores_after n plan)
scores_small n plan small k d inside =
    let long : k < plan.docs = (let a = length-map-range_with_len (λ doc. sum_by (gain_of doc) (take n plan.segments)) 0 plan.docs in omega arith) in
    let is : get_or (scores_after n plan) k d ≡ sum_by (gain_of k) (take n plan.segments) = get_or-map-range_with_len (λ doc. sum_by (gain_of doc) (take n plan.segments)) 0 plan.docs k k d long (omega arith) in
    subst (λ score. score < 2 ^ 32) (sym is) (small.scores n k)

pub part_small : (weight limit : ℕ) (docs more scores : List ℕ) → All (λ score. score < limit) (added weight (docs ++ more) scores) → All (λ score. score < limit) (added weight docs scores)
part_small weight limit docs more scores small k d inside =
    let long : k < length scores = (let a = length-added weight docs scores in omega arith) in
    let whole : k < length (added weight (docs ++ more) scores) = (let a = length-added weight (docs ++ more) scores in omega arith) in
    let below : get_or (added weight (docs ++ more) scores) k 0 < limit = small k 0 whole in
    let split : get_or (added weight (docs ++ more) scores) k 0 ≡ get_or (added weight docs scores) k 0 + weight * count_by (λ x. x == k) more =
    ap (λ l. get_or l k 0) (added_parts weight docs more scores) ∙ added_at weight more (added weight docs scores) k inside in
    subst (λ score. score < limit) (get_or_default (added weight docs scores) k 0 d inside) (omega arith)

-- ---- a prefix that is resumed

pub size_split : (n p : ℕ) (segments : List PlanSegment) → size_of_first (n + p) segments ≡ size_of_first n segments + size_of_first p (drop n segments)
size_split n p segments = ap (sum_by (λ (segment : PlanSegment). length segment.docs)) (take-add n p segments) ∙ sum_by-append (λ (segment : PlanSegment). length segment.docs) (take n segments) (take p (drop n segments))

pub resumed : (before budget n : ℕ) (segments : List PlanSegment) → n ≡ prefix_within before segments → before ≤ budget → prefix_within budget segments ≡ n + prefix_within (budget - size_of_first n segments) (drop n segments)
resumed before budget n segments is more = prefix_is segments budget (n + p) there fits stops where
  p : ℕ
  p = prefix_within (budget - size_of_first n segments) (drop n segments)

  own : n ≤ length segments
  own = let a = prefix_there before segments in omega arith

  paid : size_of_first n segments ≤ budget
  paid = let a = prefix_fits before segments in let b : size_of_first n segments ≡ size_of_first (prefix_within before segments) segments = ap (λ m. size_of_first m segments) is in omega arith

  left : length (drop n segments) ≡ length segments - n
  left = length-drop n segments

  there : n + prefix_within (budget - size_of_first n segments) (drop n segments) ≤ length segments
  there = let a = prefix_there (budget - size_of_first n segments) (drop n segments) in let b = own in let c = left in omega arith

  fits : size_of_first (n + prefix_within (budget - size_of_first n segments) (drop n segments)) segments ≤ budget
  fits =
      let a = size_split n (prefix_within (budget - size_of_first n segments) (drop n segments)) segments in
      omega (arith, prefix_fits (budget - size_of_first n segments) (drop n segments), paid)

  stops : n + prefix_within (budget - size_of_first n segments) (drop n segments) < length segments → budget < size_of_first (n + prefix_within (budget - size_of_first n segments) (drop n segments) + 1) segments
  stops less = by (cases_lt (budget - size_of_first n segments) (size_of_first (prefix_within (budget - size_of_first n segments) (drop n segments) + 1) (drop n segments))) where
    whole : size_of_first (n + prefix_within (budget - size_of_first n segments) (drop n segments) + 1) segments ≡ size_of_first n segments + size_of_first (prefix_within (budget - size_of_first n segments) (drop n segments) + 1) (drop n segments)
    whole =
        let e : n + prefix_within (budget - size_of_first n segments) (drop n segments) + 1 ≡ n + (prefix_within (budget - size_of_first n segments) (drop n segments) + 1) = omega arith in
        ap (λ m. size_of_first m segments) e ∙ size_split n (prefix_within (budget - size_of_first n segments) (drop n segments) + 1) segments

    by : (budget - size_of_first n segments < size_of_first (prefix_within (budget - size_of_first n segments) (drop n segments) + 1) (drop n segments)) ⊎ (size_of_first (prefix_within (budget - size_of_first n segments) (drop n segments) + 1) (drop n segments) ≤ budget - size_of_first n segments)
        → budget < size_of_first (n + prefix_within (budget - size_of_first n segments) (drop n segments) + 1) segments
    by (inl k) = let a = whole in let b = paid in omega arith
    by (inr k) = let c = left in absurd (let a = prefix_longest (budget - size_of_first n segments) (prefix_within (budget - size_of_first n segments) (drop n segments) + 1) (drop n segments) (omega arith) k in omega arith)

-- ---- one grant more

pub grant_added : (budgets : List Budget) (j : ℕ) (budget : Budget) → slice_get budgets j ≡ Some budget → granted_sum (take (j + 1) budgets) ≡ granted_with (granted_sum (take j budgets)) budget
grant_added budgets j budget is = ap granted_sum (take_more budgets j budget is) ∙ ap (min most) (sum_by_push amount_of (take j budgets) budget) ∙ stops (sum_by amount_of (take j budgets)) (amount_of budget) where
  stops : (s a : ℕ) → min most (s + a) ≡ min most (min most s + a)
  stops s a = omega arith

pub prefixes_many : (budgets : List Budget) (plan : QueryPlan) → length (prefixes_granted budgets plan) ≡ length budgets
prefixes_many budgets plan = length-map-range_with_len (λ j. prefix_granted j budgets plan) 1 (length budgets)

pub prefixes_from : (budgets : List Budget) (plan : QueryPlan) (j : ℕ) → j < length budgets → drop j (prefixes_granted budgets plan) ≡ prefix_granted (j + 1) budgets plan ∷ drop (j + 1) (prefixes_granted budgets plan)
prefixes_from budgets plan j inside =
    let here : get_or (prefixes_granted budgets plan) j 0 ≡ prefix_granted (j + 1) budgets plan = get_or-map-range_with_len (λ j. prefix_granted j budgets plan) 1 (length budgets) j (j + 1) 0 inside (omega arith) in
    let one : suc j ≡ j + 1 = omega arith in
    drop-cons (prefixes_granted budgets plan) j 0 (let n = prefixes_many budgets plan in omega arith)
    ∙ (λ i. here i ∷ drop (one i) (prefixes_granted budgets plan))

-- ---- the weights of a query

pub weighted_light : (docs : ℕ) (flat : List (Entry ℕ)) (terms : List QueryTerm) → IsFlat nat_cmp docs flat → All (λ named. named.times ≤ 255) terms → AreLight (weighted_postings flat terms)
weighted_light docs flat terms f times = All-from_recursion (λ p. p.weight ≤ 16711425) (weighted_postings flat terms) (weighted_all (λ p. p.weight ≤ 16711425) 0 terms flat (λ term_place.
    for_each (λ (named : QueryTerm) (e : Entry ℕ). e.impact * named.times ≤ 16711425) (λ (named : QueryTerm). named.times ≤ 255) (λ (e : Entry ℕ). (1 ≤ e.impact) × (e.impact ≤ 65535)) terms flat
    (λ named e a b. mul-le-mul b.1 a) (recursion_from_All _ terms times) (recursion_from_All _ flat f.impacts)))

-- ---- a sort through a map that keeps the order of some items

module _ {A B : Type 0} (f : A → B) (P : A → Type 0) (cmp : A → A → Ordering) (mapped : B → B → Ordering) (same : (x y : A) → P x → P y → mapped (f x) (f y) ≡ cmp x y) where
  placed_map : (x : A) (ys : List A) → P x → AllByRecursion P ys → placed mapped (f x) (map f ys) ≡ map f (placed cmp x ys)
  placed_map x [] p h = refl
  placed_map x (y ∷ ys) p h = rw (same x y p h.0) (step (is_gt (cmp x y)) (placed_map x ys p h.1)) where
    step : (b : Bool) → placed mapped (f x) (map f ys) ≡ map f (placed cmp x ys) → cond b (f y ∷ placed mapped (f x) (map f ys)) (f x ∷ f y ∷ map f ys) ≡ map f (cond b (y ∷ placed cmp x ys) (x ∷ y ∷ ys))
    step true rest = ap (λ l. f y ∷ l) rest
    step false rest = refl

  pub sorted_map_where : (xs : List A) → AllByRecursion P xs → sorted mapped (map f xs) ≡ map f (sorted cmp xs)
  sorted_map_where [] h = refl
  sorted_map_where (x ∷ xs) h = ap (placed mapped (f x)) (sorted_map_where xs h.1) ∙ placed_map x (sorted cmp xs) h.0 (all_sorted cmp P xs h.1)

-- of all items
pub sorted_map : {A B : Type 0} (f : A → B) (cmp : A → A → Ordering) (mapped : B → B → Ordering) → ((x y : A) → mapped (f x) (f y) ≡ cmp x y) → (xs : List A) → sorted mapped (map f xs) ≡ map f (sorted cmp xs)
sorted_map f cmp mapped same xs = sorted_map_where f (λ x. ⊤) cmp mapped (λ x y p q. same x y) xs (all_of (λ x. ⊤) (λ x. tt) xs)
