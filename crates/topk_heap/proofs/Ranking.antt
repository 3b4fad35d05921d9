-- Hits in order, and the first of some scores.
use Rattle.shared_lemmas.proofs.Common.{◌≡◌, ◌≢◌, ℕ, zero, suc, ◌+◌, ◌-◌, ◌/◌, ◌<◌, ◌≤◌, ◌==◌, List, [], ◌∷◌, length, take, get_or, Bool, true, false, refl, sym, ap, subst, ◌∙◌, arith, inl, inr, ◌⊎◌, true≢false, IsPermutation, reverse, slice_get, nat_lt, min, Option, Some, None, IfSome, is_some}
use Rattle.shared_lemmas.proofs.Common.{if◌then◌else◌, AllByRecursion, is_gt, cases_lt, nat_tests, get_or-reverse, length-reverse, take_min, take-take, get_or_from_slice_get, slice_get_past, slice_get_read, IsPermutation-reverse, IsPermutation-sym, IsPermutation-trans, All-from_recursion}
use Rattle.std.specs.Prelude.{option_map}
use Rattle.topk_heap.proofs.Below.{Hit, sorted, rank_cmp, hits_from, first_ranked, runner_up, Ascends, all_sorted, one_order, sorted_ascending, sorted_ascends, pairs_sorted, rank_total, rank_same, hits_each, ascends_take}
use Rattle.shared_lemmas.proofs.Pairs.{Pairs}
use Rattle.shared_lemmas.proofs.Lists.{all_weaker, all_take}
use Rattle.topk_heap.specs.Hits.{hit_at}
use Rattle.topk_heap.specs.Standing.{IsHeap}
use Rattle.topk_heap.specs.Private.Standing.{AreInOrder}
use Rattle.topk_heap.proofs.Lists.{pairs_take}

abbrev pub Apart : Hit → Hit → Type 0
Apart a b = a.doc ≢ b.doc

-- a hit of the scores: its document has this score
abbrev pub Own : List ℕ → Hit → Type 0
Own scores hit = (hit.doc < length scores) × (1 ≤ hit.score) × (hit.score ≡ get_or scores hit.doc 0)

-- ---- order

behind : (x y : Hit) → is_gt (rank_cmp x y) ≡ false → x.doc ≢ y.doc → is_gt (rank_cmp y x) ≡ true
behind x y above apart = grind (arith, nat_tests)

before : (x y : Hit) → is_gt (rank_cmp y x) ≡ true → is_gt (rank_cmp x y) ≡ false
before x y below = grind (arith, nat_tests)

pub in_order : (xs : List Hit) → Ascends rank_cmp xs → Pairs Apart xs → AreInOrder xs
in_order [] up apart = tt
in_order (x ∷ xs) up apart = (each xs up.0 apart.0, in_order xs up.1 apart.1) where
  each : (ys : List Hit) → AllByRecursion (λ y. is_gt (rank_cmp x y) ≡ false) ys → AllByRecursion (λ y. Apart x y) ys → AllByRecursion (λ y. (is_gt (rank_cmp y x) ≡ true) × (y.doc ≢ x.doc)) ys
  each [] up apart = tt
  each (y ∷ ys) up apart = ((behind x y up.0 apart.0, λ e. apart.0 (sym e)), each ys up.1 apart.1)

pub order_ascends : (xs : List Hit) → AreInOrder xs → Ascends rank_cmp xs
order_ascends [] order = tt
order_ascends (x ∷ xs) order = (all_weaker (λ (y : Hit). (is_gt (rank_cmp y x) ≡ true) × (y.doc ≢ x.doc)) (λ y. is_gt (rank_cmp x y) ≡ false) (λ y h. before x y h.0) xs order.0, order_ascends xs order.1)

pub order_apart : (xs : List Hit) → AreInOrder xs → Pairs Apart xs
order_apart [] order = tt
order_apart (x ∷ xs) order = (all_weaker (λ (y : Hit). (is_gt (rank_cmp y x) ≡ true) × (y.doc ≢ x.doc)) (λ y. Apart x y) (λ y h e. h.1 (sym e)) xs order.0, order_apart xs order.1)

pub order_index : (xs : List Hit) → AreInOrder xs → (i j : ℕ) (d : Hit) → i < j → j < length xs → is_gt (rank_cmp (get_or xs j d) (get_or xs i d)) ≡ true
order_index [] order i j d up inside = absurd (omega arith)
order_index (x ∷ xs) order i zero d up inside = absurd (omega arith)
order_index (x ∷ xs) order zero (suc j) d up inside = (All-from_recursion (λ (y : Hit). (is_gt (rank_cmp y x) ≡ true) × (y.doc ≢ x.doc)) xs order.0 j d (omega arith)).0
order_index (x ∷ xs) order (suc i) (suc j) d up inside = order_index xs order.1 i j d (omega arith) (omega arith)

-- the last in front is a heap
pub heap_of : (xs : List Hit) → AreInOrder xs → IsHeap (reverse xs)
heap_of xs order i some inside =
    let zero_hit : Hit = record { doc = 0; score = 0 } in
    let n : ℕ = length xs in
    let size : length (reverse xs) ≡ n = length-reverse xs in
    let up : (i - 1) / 2 < i = omega arith in
    subst (λ (h : Hit). is_gt (rank_cmp h (get_or (reverse xs) i zero_hit)) ≡ true) (sym (get_or-reverse xs ((i - 1) / 2) zero_hit (omega (arith, size, up, inside))))
    (subst (λ (h : Hit). is_gt (rank_cmp (get_or xs (n - 1 - (i - 1) / 2) zero_hit) h) ≡ true) (sym (get_or-reverse xs i zero_hit (omega (arith, size, inside))))
    (order_index xs order (n - 1 - i) (n - 1 - (i - 1) / 2) zero_hit (omega (arith, size, up, inside)) (omega (arith, size, up, inside))))

-- ---- the first of some scores

hits_apart : (from : ℕ) (scores : List ℕ) → Pairs Apart (hits_from from scores)
hits_apart from [] = tt
hits_apart from (score ∷ scores) = step (score == 0) (hits_apart (from + 1) scores) where
  step : (b : Bool) → Pairs Apart (hits_from (from + 1) scores) → Pairs Apart (if b then hits_from (from + 1) scores else record { doc = from; score = score } ∷ hits_from (from + 1) scores)
  step true rest = rest
  step false rest = (hits_each (λ (h : Hit). from ≢ h.doc) (from + 1) scores (λ i inside some e. absurd (omega arith)), rest)

pub first_own : (scores : List ℕ) (m : ℕ) → AllByRecursion (Own scores) (first_ranked scores m)
first_own scores m = all_take (Own scores) m (sorted rank_cmp (hits_from 0 scores)) (all_sorted rank_cmp (Own scores) (hits_from 0 scores)
    (hits_each (Own scores) 0 scores (λ i inside some. let e : i ≡ 0 + i = omega arith in subst (λ d. Own scores (record { doc = d; score = get_or scores i 0 })) e (inside, some, refl))))

pub all_in_order : (scores : List ℕ) → AreInOrder (sorted rank_cmp (hits_from 0 scores))
all_in_order scores = in_order (sorted rank_cmp (hits_from 0 scores)) (sorted_ascends rank_cmp rank_total (hits_from 0 scores))
    (pairs_sorted rank_cmp Apart (λ x y apart e. apart (sym e)) (hits_from 0 scores) (hits_apart 0 scores))

pub first_in_order : (scores : List ℕ) (m : ℕ) → AreInOrder (first_ranked scores m)
first_in_order scores m =
    in_order (first_ranked scores m) (ascends_take rank_cmp m (sorted rank_cmp (hits_from 0 scores)) (sorted_ascends rank_cmp rank_total (hits_from 0 scores)))
    (pairs_take Apart m (sorted rank_cmp (hits_from 0 scores)) (pairs_sorted rank_cmp Apart (λ x y apart e. apart (sym e)) (hits_from 0 scores) (hits_apart 0 scores)))

-- hits in order whose heap is the first of some scores are these
pub is_first : (scores : List ℕ) (m : ℕ) (row : List Hit) → AreInOrder row → IsPermutation (first_ranked scores m) (reverse row) → row ≡ first_ranked scores m
is_first scores m row order moved = sym (one_order rank_cmp rank_total rank_same (first_ranked scores m) row
    (IsPermutation-trans (first_ranked scores m) (reverse row) row moved (IsPermutation-sym row (reverse row) (IsPermutation-reverse row)))
    (sorted_ascending rank_cmp rank_total (first_ranked scores m) (order_ascends (first_ranked scores m) (first_in_order scores m)))
    (sorted_ascending rank_cmp rank_total row (order_ascends row order)))

pub front_is_first : (scores : List ℕ) (k : ℕ) (row : List Hit) → AreInOrder row → IsPermutation (first_ranked scores (k + 1)) (reverse row) → take k row ≡ first_ranked scores k
front_is_first scores k row order moved =
    ap (λ (xs : List Hit). take k xs) (is_first scores (k + 1) row order moved) ∙ take-take k (k + 1) (sorted rank_cmp (hits_from 0 scores)) (omega arith)

pub ranked_is : (scores : List ℕ) (k n : ℕ) (row front : List Hit) → AreInOrder row → front ≡ row → n ≡ min (length front) k → IsPermutation (first_ranked scores (k + 1)) (reverse row) → take n front ≡ first_ranked scores k
ranked_is scores k n row front order same is moved =
    ap (λ (xs : List Hit). take n xs) same ∙ ap (λ i. take i row) (let size = ap (λ (xs : List Hit). length xs) same in omega arith)
    ∙ take_min k row ∙ front_is_first scores k row order moved

pub looked_up : {B : Type 0} (now : B → Hit) (xs : List Hit) (i : ℕ) (r : Option B) → is_some r ≡ nat_lt i (length xs) → IfSome r (λ x. now x ≡ get_or xs i (now x)) → option_map now r ≡ slice_get xs i
looked_up {B = B} now xs i None there is = sym (slice_get_past xs i (by (cases_lt i (length xs)))) where
  by : (i < length xs) ⊎ (length xs ≤ i) → length xs ≤ i
  by (inr past) = past
  by (inl inside) = absurd (true≢false (sym (let t : nat_lt i (length xs) ≡ true = grind (arith, nat_tests) in there ∙ t)))
looked_up {B = B} now xs i (Some x) there is = sym (slice_get_read xs (length xs) i (now x) refl (by (cases_lt i (length xs))) is) where
  by : (i < length xs) ⊎ (length xs ≤ i) → i < length xs
  by (inl inside) = inside
  by (inr past) = absurd (true≢false (let f : nat_lt i (length xs) ≡ false = grind (arith, nat_tests) in there ∙ f))

pub next_is : (scores : List ℕ) (k : ℕ) (row front : List Hit) (o : Option Hit) → AreInOrder row → front ≡ row → o ≡ slice_get front k → IsPermutation (first_ranked scores (k + 1)) (reverse row) → o ≡ runner_up scores k
next_is scores k row front o order same is moved = is ∙ ap (λ (xs : List Hit). slice_get xs k) (same ∙ is_first scores (k + 1) row order moved)

pub last_is : (row front : List Hit) (k : ℕ) (o : Option Hit) → length row ≤ k + 1 → front ≡ row → o ≡ slice_get front k → IfSome o (λ hit. length (reverse row) ≡ k + 1) × IfSome o (λ hit. hit ≡ hit_at (reverse row) 0)
last_is row front k None few same is = (tt, tt)
last_is row front k (Some hit) few same is = by (cases_lt k (length row)) where
  here : Some hit ≡ slice_get row k
  here = is ∙ ap (λ (xs : List Hit). slice_get xs k) same

  by : (k < length row) ⊎ (length row ≤ k) → (length (reverse row) ≡ k + 1) × (hit ≡ hit_at (reverse row) 0)
  by (inr past) = absurd (none (here ∙ slice_get_past row k past)) where
    none : Some hit ≡ None → ⊥
    none e = cc
  by (inl inside) =
      let zero_hit : Hit = record { doc = 0; score = 0 } in
      let size : length (reverse row) ≡ length row = length-reverse row in
      let at : length row - 1 - 0 ≡ k = omega arith in
      (omega arith, sym (get_or-reverse row 0 zero_hit (omega arith) ∙ ap (λ j. get_or row j zero_hit) at ∙ get_or_from_slice_get row k hit zero_hit (sym here)))
