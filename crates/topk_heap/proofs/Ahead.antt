-- How many hits rank before one, and who is among the first when scores rise.
use Rattle.shared_lemmas.proofs.Common.{◌≡◌, ◌≢◌, ℕ, zero, suc, ◌+◌, ◌<◌, ◌≤◌, ◌==◌, List, [], ◌∷◌, length, take, get_or, sum_by, Bool, true, false, true≢false, cond, refl, sym, ap, subst, ◌∙◌, arith, inl, inr, ◌⊎◌, eq-eqb, AllByRecursion, is_gt, cases_eq, nat_tests, length-take}
use Rattle.shared_lemmas.proofs.Common.{count_by-le-length, sum_by-cons}
use Rattle.topk_heap.proofs.Below.{Hit, sorted, rank_cmp, hits_from, first_ranked, Ascends, sum_by-sorted, sorted_ascends, rank_total, in_hits, in_sorted}
use Rattle.shared_lemmas.proofs.Members.{In, all_at}
use Rattle.topk_heap.specs.Private.Standing.{AreInOrder}
use Rattle.topk_heap.proofs.Ranking.{Own, all_in_order, first_own}

-- 1 where a hit ranks before x
abbrev pub ahead : Hit → Hit → ℕ
ahead x hit = cond (is_gt (rank_cmp x hit)) 1 0

none_ahead : (x : Hit) (xs : List Hit) → AllByRecursion (λ y. is_gt (rank_cmp x y) ≡ false) xs → sum_by (ahead x) xs ≡ 0
none_ahead x [] h = refl
none_ahead x (y ∷ xs) h = let s = sum_by-cons (ahead x) y xs in let rest = none_ahead x xs h.1 in let f = h.0 in rw (s, f) (omega (arith, rest))

pub all_ahead : (x : Hit) (xs : List Hit) → AllByRecursion (λ y. is_gt (rank_cmp x y) ≡ true) xs → sum_by (ahead x) xs ≡ length xs
all_ahead x [] h = refl
all_ahead x (y ∷ xs) h = let s = sum_by-cons (ahead x) y xs in let rest = all_ahead x xs h.1 in let t = h.0 in rw (s, t) (omega (arith, rest))

at_most_one : (b : Bool) → cond {A = ℕ} b 1 0 ≤ 1
at_most_one true = omega arith
at_most_one false = omega arith

not_behind : (x : Hit) → is_gt (rank_cmp x x) ≡ false
not_behind x = grind (arith, nat_tests)

pub few_ahead : (m : ℕ) (xs : List Hit) (x : Hit) → Ascends rank_cmp xs → In x (take m xs) → sum_by (ahead x) xs < m
few_ahead zero xs x order there = absurd there
few_ahead (suc m) [] x order there = absurd there
few_ahead (suc m) (y ∷ xs) x order (inl e) =
    let s = sum_by-cons (ahead x) y xs in
    let f : is_gt (rank_cmp x y) ≡ false = subst (λ (z : Hit). is_gt (rank_cmp x z) ≡ false) e (not_behind x) in
    let rest : sum_by (ahead x) xs ≡ 0 = none_ahead x xs (subst (λ (z : Hit). AllByRecursion (λ w. is_gt (rank_cmp z w) ≡ false) xs) (sym e) order.0) in
    rw (s, f) (omega (arith, rest))
few_ahead (suc m) (y ∷ xs) x order (inr there) =
    let s = sum_by-cons (ahead x) y xs in
    let rest = few_ahead m xs x order.1 there in
    let one : ahead x y ≤ 1 = at_most_one (is_gt (rank_cmp x y)) in
    omega arith

pub in_front : (m : ℕ) (xs : List Hit) (x : Hit) → AreInOrder xs → In x xs → sum_by (ahead x) xs < m → In x (take m xs)
in_front m [] x order there few = absurd there
in_front zero (y ∷ xs) x order there few = absurd (omega arith)
in_front (suc m) (y ∷ xs) x order (inl e) few = inl e
in_front (suc m) (y ∷ xs) x order (inr there) few =
    let s = sum_by-cons (ahead x) y xs in
    let t : is_gt (rank_cmp x y) ≡ true = (all_at (λ (z : Hit). (is_gt (rank_cmp z y) ≡ true) × (z.doc ≢ y.doc)) xs x order.0 there).0 in
    let one : ◌≡◌ {A = ℕ} (ahead x y) 1 = ap (λ (b : Bool). cond {A = ℕ} b 1 0) t in
    inr (in_front m xs x order.1 there (omega arith))

-- ---- scores that rise

abbrev pub Rises : List ℕ → List ℕ → Type 0
Rises old new = (d : ℕ) → get_or old d 0 ≤ get_or new d 0

ahead_rises : (x : Hit) (d low high : ℕ) → low ≤ high → ahead x (record { doc = d; score = low }) ≤ ahead x (record { doc = d; score = high })
ahead_rises x d low high up = by (is_gt (rank_cmp x (record { doc = d; score = low }))) (is_gt (rank_cmp x (record { doc = d; score = high }))) (λ t. grind (arith, nat_tests)) where
  by : (a b : Bool) → (a ≡ true → b ≡ true) → cond {A = ℕ} a 1 0 ≤ cond {A = ℕ} b 1 0
  by false b follows = omega arith
  by true true follows = omega arith
  by true false follows = absurd (true≢false (sym (follows refl)))

pub more_ahead : (x : Hit) (from : ℕ) (old new : List ℕ) → length old ≡ length new → Rises old new → sum_by (ahead x) (hits_from from old) ≤ sum_by (ahead x) (hits_from from new)
more_ahead x from [] new size up = omega arith
more_ahead x from (a ∷ old) [] size up = absurd (omega arith)
more_ahead x from (a ∷ old) (b ∷ new) size up = by (cases_eq a 0) (cases_eq b 0) (more_ahead x (from + 1) old new (omega arith) (λ d. up (suc d)))
  where
    first : a ≤ b
    first = up 0

    none : (n : ℕ) (rest : List ℕ) → n ≡ 0 → hits_from from (n ∷ rest) ≡ hits_from (from + 1) rest
    none n rest e = let t : (n == 0) ≡ true = eq-eqb n 0 e in rw t refl

    some : (n : ℕ) (rest : List ℕ) → (n ≡ 0 → ⊥) → sum_by (ahead x) (hits_from from (n ∷ rest)) ≡ ahead x (record { doc = from; score = n }) + sum_by (ahead x) (hits_from (from + 1) rest)
    some n rest e = let f : (n == 0) ≡ false = grind (arith, nat_tests) in rw f (sum_by-cons (ahead x) (record { doc = from; score = n }) (hits_from (from + 1) rest))

    by : (a ≡ 0) ⊎ (a ≡ 0 → ⊥) → (b ≡ 0) ⊎ (b ≡ 0 → ⊥) → sum_by (ahead x) (hits_from (from + 1) old) ≤ sum_by (ahead x) (hits_from (from + 1) new)
        → sum_by (ahead x) (hits_from from (a ∷ old)) ≤ sum_by (ahead x) (hits_from from (b ∷ new))
    by (inl e) (inl f) rest = omega (arith, rest, ap (sum_by (ahead x)) (none a old e), ap (sum_by (ahead x)) (none b new f))
    by (inl e) (inr f) rest = omega (arith, rest, ap (sum_by (ahead x)) (none a old e), some b new f)
    by (inr e) (inl f) rest = absurd (let u = first in omega arith)
    by (inr e) (inr f) rest = omega (arith, rest, some a old e, some b new f, ahead_rises x from a b first)

-- a hit of the scores with few hits before it is among the first, and no other is
pub first_if_few : (scores : List ℕ) (m : ℕ) (x : Hit) → Own scores x → sum_by (ahead x) (hits_from 0 scores) < m → In x (first_ranked scores m)
first_if_few scores m x own few =
    in_front m (sorted rank_cmp (hits_from 0 scores)) x (all_in_order scores) (in_sorted rank_cmp x (hits_from 0 scores) (in_hits 0 scores x x.doc (omega arith) own.0 own.1 own.2))
    (let s = sum_by-sorted rank_cmp (ahead x) (hits_from 0 scores) in omega arith)

pub few_if_first : (scores : List ℕ) (m : ℕ) (x : Hit) → In x (first_ranked scores m) → sum_by (ahead x) (hits_from 0 scores) < m
few_if_first scores m x there =
    let s = sum_by-sorted rank_cmp (ahead x) (hits_from 0 scores) in
    let few = few_ahead m (sorted rank_cmp (hits_from 0 scores)) x (sorted_ascends rank_cmp rank_total (hits_from 0 scores)) there in
    omega arith

-- where there are fewer than m, each hit of the scores is among them
pub first_of_few : (scores : List ℕ) (m : ℕ) (x : Hit) → Own scores x → length (first_ranked scores m) < m → In x (first_ranked scores m)
first_of_few scores m x own few =
    let s = sum_by-sorted rank_cmp (ahead x) (hits_from 0 scores) in
    let most : sum_by (ahead x) (sorted rank_cmp (hits_from 0 scores)) ≤ length (sorted rank_cmp (hits_from 0 scores)) = count_by-le-length (λ y. is_gt (rank_cmp x y)) (sorted rank_cmp (hits_from 0 scores)) in
    let size = length-take m (sorted rank_cmp (hits_from 0 scores)) in
    first_if_few scores m x own (omega (arith, s, most, size, few))

-- who is among the first, and had this score before others rose, was among them
pub first_before : (old new : List ℕ) (m : ℕ) (x : Hit) → length old ≡ length new → Rises old new → In x (first_ranked new m) → get_or old x.doc 0 ≡ get_or new x.doc 0 → In x (first_ranked old m)
first_before old new m x size up there same =
    let own = all_at (Own new) (first_ranked new m) x (first_own new m) there in
    first_if_few old m x (let o = own.0 in omega arith, own.1, own.2 ∙ sym same)
    (let few = few_if_first new m x there in let more = more_ahead x 0 old new size up in omega arith)
