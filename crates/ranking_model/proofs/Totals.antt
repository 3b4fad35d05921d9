-- Sums over a prefix of a list, of a range and of the documents that a segment has.
use Rattle.shared_lemmas.proofs.Common.{◌≡◌, ℕ, suc, zero, ◌+◌, ◌-◌, ◌*◌, ◌^◌, ◌<◌, ◌≤◌, ◌≢◌, List, [], length, get_or, set, take, drop, Bool, true, false, true≢false, cond, sym, ap, ◌∙◌, arith, inl, inr, ◌⊎◌, nat_le, ◌==◌, sum_by, count_by, eq-eqb, get_or-set_same, get_or-set_other}
use Rattle.shared_lemmas.proofs.Common.{range_with_len, take-take, take_rest, ext_get_or, sum_by_push, sum_by-take-le, count_by_more_no, count_by_more_yes, cases_lt, le-leb, nat_tests, mul-le-mul_left, length-map-range_with_len, get_or-map-range_with_len, cases_Bool}
use borrow.Author.Tests.{eqb-true, eqb-false}
use Rattle.ranking_model.specs.declared.plan_segment.PlanSegment.{PlanSegment}
use Rattle.ranking_model.specs.Plan.{size_of_first, greatest_up_to, prefix_within}
use Rattle.ranking_model.specs.Scores.{greatest_weight, gain_of, scores_after}
use Rattle.ranking_model.specs.declared.plan.QueryPlan.{QueryPlan}
use Rattle.shared_lemmas.proofs.Sums.{range_push}

pub sum_range_more : (f : ℕ → ℕ) (n : ℕ) → sum_by f (range_with_len 0 (n + 1)) ≡ sum_by f (range_with_len 0 n) + f n
sum_range_more f n = ap (sum_by f) (range_push 0 n) ∙ sum_by_push f (range_with_len 0 n) (0 + n) ∙ ap (λ m. sum_by f (range_with_len 0 n) + f m) (omega arith)

pub sum_range_le : (f : ℕ → ℕ) (n m : ℕ) → n ≤ m → sum_by f (range_with_len 0 n) ≤ sum_by f (range_with_len 0 m)
sum_range_le f n zero h = let e : n ≡ 0 = omega arith in rw e (omega arith)
sum_range_le f n (suc m) h = by (cases_lt m n) (λ k. sum_range_le f n m k) where
  by : (m < n) ⊎ (n ≤ m) → (n ≤ m → sum_by f (range_with_len 0 n) ≤ sum_by f (range_with_len 0 m)) → sum_by f (range_with_len 0 n) ≤ sum_by f (range_with_len 0 (suc m))
  by (inl k) rest = let e : n ≡ suc m = omega arith in rw e (omega arith)
  by (inr k) rest = let e = sum_range_more f m in let one : m + 1 ≡ suc m = omega arith in let e' = rw one at e in omega (arith, rest k)

-- the greatest number that passes a test
pub greatest_is : (m n : ℕ) (test : ℕ → Bool) → n ≤ m → (0 < n → test n ≡ true) → ((j : ℕ) → n < j → j ≤ m → test j ≡ false) → greatest_up_to m test ≡ n
greatest_is zero n test h passes no_more = omega arith
greatest_is (suc m) n test h passes no_more = by (cases_Bool (test (suc m))) (cases_lt n (suc m)) (λ k. greatest_is m n test k passes (λ j a b. no_more j a (omega arith))) where
  by : (test (suc m) ≡ true) ⊎ (test (suc m) ≡ false) → (n < suc m) ⊎ (suc m ≤ n) → (n ≤ m → greatest_up_to m test ≡ n) → greatest_up_to (suc m) test ≡ n
  by (inl t) (inl k) rest = absurd (true≢false (sym t ∙ no_more (suc m) k (omega arith)))
  by (inl t) (inr k) rest = rw t (omega arith)
  by (inr f) (inl k) rest = rw f (rest (omega arith))
  by (inr f) (inr k) rest = let e : n ≡ suc m = omega arith in let t = rw e at passes in absurd (true≢false (sym (t (omega arith)) ∙ f))

pub size_mono : (segments : List PlanSegment) (i j : ℕ) → i ≤ j → size_of_first i segments ≤ size_of_first j segments
size_mono segments i j h = let e = take-take i j segments h in let less = sum_by-take-le (λ (segment : PlanSegment). length segment.docs) (take j segments) i in rw e at less

pub prefix_is : (segments : List PlanSegment) (budget n : ℕ) → n ≤ length segments → size_of_first n segments ≤ budget → (n < length segments → budget < size_of_first (n + 1) segments) → prefix_within budget segments ≡ n
prefix_is segments budget n h fits stops = greatest_is (length segments) n (λ j. nat_le (size_of_first j segments) budget) h (λ k. le-leb _ _ fits)
    (λ j a b. past j a b (stops (omega arith)) (size_mono segments (n + 1) j (omega arith)))
  where
    past : (j : ℕ) → n < j → j ≤ length segments → budget < size_of_first (n + 1) segments → size_of_first (n + 1) segments ≤ size_of_first j segments → nat_le (size_of_first j segments) budget ≡ false
    past j a b over more = grind (arith, nat_tests)

pub room_here : (docs : List ℕ) (now old weight i doc limit : ℕ) → i < length docs → doc ≡ get_or docs i 0 → now ≡ old + weight * count_by (λ x. x == doc) (take i docs) → old + weight * count_by (λ x. x == doc) docs < limit → now + weight < limit
room_here docs now old weight i doc limit h is inv room =
    let same : (get_or docs i 0 == doc) ≡ true = eq-eqb _ _ (sym is) in
    let on = count_by_more_yes (λ x. x == doc) docs i 0 h same in
    let all = sum_by-take-le (λ (x : ℕ). cond (x == doc) 1 0) docs (i + 1) in
    let c : count_by (λ x. x == doc) (take i docs) + 1 ≤ count_by (λ x. x == doc) docs = omega arith in
    omega (arith, mul-le-mul_left weight c)

pub added_here : (docs scores old : List ℕ) (weight i doc d : ℕ) → i < length docs → doc ≡ get_or docs i 0 → doc < length scores → ((d : ℕ) → d < length old → get_or scores d 0 ≡ get_or old d 0 + weight * count_by (λ x. x == d) (take i docs)) → length scores ≡ length old → d < length old
    → get_or (set scores doc (get_or scores doc 0 + weight)) d 0 ≡ get_or old d 0 + weight * count_by (λ x. x == d) (take (i + 1) docs)
added_here docs scores old weight i doc d h is here inv long within = by (cases_Bool (get_or docs i 0 == d)) where
  by : ((get_or docs i 0 == d) ≡ true) ⊎ ((get_or docs i 0 == d) ≡ false) → get_or (set scores doc (get_or scores doc 0 + weight)) d 0 ≡ get_or old d 0 + weight * count_by (λ x. x == d) (take (i + 1) docs)
  by (inl t) =
      let e : doc ≡ d = is ∙ eqb-true _ _ t in
      let more = count_by_more_yes (λ x. x == d) docs i 0 h t in
      let was = inv d within in
      let old_doc : get_or scores doc 0 ≡ get_or scores d 0 = ap (λ n. get_or scores n 0) e in
      let written : get_or (set scores doc (get_or scores doc 0 + weight)) d 0 ≡ get_or scores doc 0 + weight =
      ap (λ n. get_or (set scores doc (get_or scores doc 0 + weight)) n 0) (sym e) ∙ get_or-set_same scores doc (get_or scores doc 0 + weight) 0 here in
      written ∙ rw more (omega arith)
  by (inr f) =
      let apart : d ≢ doc = λ e. eqb-false _ _ f (sym is ∙ sym e) in
      let more = count_by_more_no (λ x. x == d) docs i 0 h f in
      get_or-set_other scores doc d (get_or scores doc 0 + weight) 0 apart ∙ inv d within ∙ ap (λ n. get_or old d 0 + weight * n) (sym more)

-- the greatest weight of one more place, read from a slice
pub bound_step : (segments shown : List PlanSegment) (count term_place terms bound more : ℕ) → shown ≡ segments → term_place < terms → bound ≡ sum_by (λ p. greatest_weight p (drop count segments)) (range_with_len 0 term_place)
    → more ≡ greatest_weight term_place (take (length shown - count) (drop count shown)) → sum_by (λ p. greatest_weight p (drop count segments)) (range_with_len 0 terms) < 2 ^ 32
    → (bound + more ≡ sum_by (λ p. greatest_weight p (drop count segments)) (range_with_len 0 (term_place + 1))) × (bound + more < 2 ^ 32)
bound_step segments shown count term_place terms bound more same within is told limit = (total, let most = sum_range_le (λ p. greatest_weight p (drop count segments)) (term_place + 1) terms (omega arith) in omega (arith, total)) where
  told' : more ≡ greatest_weight term_place (drop count segments)
  told' = told ∙ ap (greatest_weight term_place) (take_rest shown count) ∙ ap (λ l. greatest_weight term_place (drop count l)) same

  total : bound + more ≡ sum_by (λ p. greatest_weight p (drop count segments)) (range_with_len 0 (term_place + 1))
  total = let more = sum_range_more (λ p. greatest_weight p (drop count segments)) term_place in omega (arith, told')

-- a list with each document's sum at its place is the scores
pub scores_are : (plan : QueryPlan) (scores : List ℕ) (n : ℕ) → length scores ≡ plan.docs → ((d : ℕ) → d < plan.docs → get_or scores d 0 ≡ sum_by (gain_of d) (take n plan.segments)) → scores ≡ scores_after n plan
scores_are plan scores n long each = ext_get_or 0 scores (scores_after n plan) (long ∙ sym (length-map-range_with_len (λ d. sum_by (gain_of d) (take n plan.segments)) 0 plan.docs))
    (λ d h. each d (omega arith) ∙ sym (get_or-map-range_with_len (λ d. sum_by (gain_of d) (take n plan.segments)) 0 plan.docs d d 0 (omega arith) (omega arith)))
