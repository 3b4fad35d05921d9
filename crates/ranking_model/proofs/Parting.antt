-- The plan's weights fall, so a prefix of it is parted from the rest by weight, and is the heaviest of its size.
use Rattle.shared_lemmas.proofs.Common.{◌≡◌, ℕ, zero, suc, ◌+◌, ◌-◌, ◌*◌, ◌<◌, ◌≤◌, List, [], ◌∷◌, length, take, drop, Bool, true, false, true≢false, refl, sym, ap, ◌∙◌, arith, inl, inr, ◌⊎◌, sum_by, fold, ◌++◌, ⊤, nat_le, AllByRecursion, items_where_true, is_gt, leb-true, le-leb, cases_lt}
use Rattle.shared_lemmas.proofs.Common.{nat_tests, sum_by-cons, sum_by-take-drop, cases_Bool}
use Rattle.std.proofs.Common.{length-append}
use Rattle.ranking_model.specs.declared.posting.WeightedPosting.{WeightedPosting}
use Rattle.ranking_model.specs.declared.plan_segment.PlanSegment.{PlanSegment}
use Rattle.ranking_model.specs.Plan.{joined, is_of, plan_cmp, plan_segments, size_of_first, greatest_up_to, prefix_within, weight_at, cutoff_after, next_after}
use Rattle.ranking_model.specs.Heaviest.{IsHeaviest}
use Rattle.ranking_model.proofs.Sorting.{Ascends, sorted_ascends}
use Rattle.ranking_model.proofs.Orders.{plan_total}
use Rattle.ranking_model.proofs.Grouping.{more, segments_sum}

-- ---- the longest prefix

greatest_within : (n : ℕ) (test : ℕ → Bool) → greatest_up_to n test ≤ n
greatest_within zero test = omega arith
greatest_within (suc n) test =
    let rest = greatest_within n test in elim (cases_Bool (test (suc n))) [ inl t ↦ rw t (omega arith) | inr f ↦ rw f (omega arith) ]

greatest_passes : (n : ℕ) (test : ℕ → Bool) → test 0 ≡ true → test (greatest_up_to n test) ≡ true
greatest_passes zero test start = start
greatest_passes (suc n) test start = let rest = greatest_passes n test start in elim (cases_Bool (test (suc n))) [ inl t ↦ rw t t | inr f ↦ rw f rest ]

greatest_greatest : (n j : ℕ) (test : ℕ → Bool) → j ≤ n → test j ≡ true → j ≤ greatest_up_to n test
greatest_greatest zero j test h passes = h
greatest_greatest (suc n) j test h passes = by (cases_Bool (test (suc n))) (cases_lt j (suc n)) (λ k. greatest_greatest n j test k passes) where
  by : (test (suc n) ≡ true) ⊎ (test (suc n) ≡ false) → (j < suc n) ⊎ (suc n ≤ j) → (j ≤ n → j ≤ greatest_up_to n test) → j ≤ greatest_up_to (suc n) test
  by (inl t) k rest = rw t h
  by (inr f) (inl k) rest = rw f (rest (omega arith))
  by (inr f) (inr k) rest = let e : j ≡ suc n = omega arith in absurd (true≢false (sym (rw e at passes) ∙ f))

pub prefix_there : (budget : ℕ) (segments : List PlanSegment) → prefix_within budget segments ≤ length segments
prefix_there budget segments = greatest_within (length segments) (λ n. nat_le (size_of_first n segments) budget)

pub prefix_fits : (budget : ℕ) (segments : List PlanSegment) → size_of_first (prefix_within budget segments) segments ≤ budget
prefix_fits budget segments = leb-true _ _ (greatest_passes (length segments) (λ n. nat_le (size_of_first n segments) budget) (le-leb 0 budget (omega arith)))

pub prefix_longest : (budget n : ℕ) (segments : List PlanSegment) → n ≤ length segments → size_of_first n segments ≤ budget → n ≤ prefix_within budget segments
prefix_longest budget n segments h fits = greatest_greatest (length segments) n (λ n. nat_le (size_of_first n segments) budget) h (le-leb _ _ fits)

-- ---- the cutoff

-- no segment weighs less than one behind it
abbrev Falls : List PlanSegment → Type 0
Falls [] = ⊤
Falls (c ∷ cs) = AllByRecursion (λ d. d.weight ≤ c.weight) cs × Falls cs

falls_from : (cs : List PlanSegment) → Ascends plan_cmp cs → Falls cs
falls_from [] h = tt
falls_from (c ∷ cs) h = (all cs h.0, falls_from cs h.1) where
  lighter : (d : PlanSegment) → is_gt (plan_cmp c d) ≡ false → d.weight ≤ c.weight
  lighter d k = grind (arith, nat_tests)

  all : (ds : List PlanSegment) → AllByRecursion (λ d. is_gt (plan_cmp c d) ≡ false) ds → AllByRecursion (λ d. d.weight ≤ c.weight) ds
  all [] k = tt
  all (d ∷ ds) k = (lighter d k.0, all ds k.1)

weight_at_le : (m at : ℕ) (cs : List PlanSegment) → AllByRecursion (λ d. d.weight ≤ m) cs → weight_at at cs ≤ m
weight_at_le m at [] h = omega arith
weight_at_le m zero (c ∷ cs) h = h.0
weight_at_le m (suc at) (c ∷ cs) h = weight_at_le m at cs h.1

scored_at_least : (n : ℕ) (cs : List PlanSegment) → Falls cs → AllByRecursion (λ segment. cutoff_after n cs ≤ segment.weight) (take n cs)
scored_at_least zero cs h = tt
scored_at_least (suc n) [] h = tt
scored_at_least (suc zero) (c ∷ cs) h = (omega arith, tt)
scored_at_least (suc (suc n)) (c ∷ cs) h = (weight_at_le c.weight n cs h.0, scored_at_least (suc n) cs h.1)

unscored_at_most : (n : ℕ) (cs : List PlanSegment) → Falls cs → AllByRecursion (λ segment. segment.weight ≤ next_after n cs) (drop n cs)
unscored_at_most zero [] h = tt
unscored_at_most zero (c ∷ cs) h = (omega arith, h.0)
unscored_at_most (suc n) [] h = tt
unscored_at_most (suc n) (c ∷ cs) h = unscored_at_most n cs h.1

next_below : (n : ℕ) (cs : List PlanSegment) → Falls cs → weight_at (suc n) cs ≤ weight_at n cs
next_below n [] h = omega arith
next_below zero (c ∷ cs) h = weight_at_le c.weight 0 cs h.0
next_below (suc n) (c ∷ cs) h = next_below n cs h.1

plan_falls : (ps : List WeightedPosting) → Falls (plan_segments ps)
plan_falls ps = falls_from (plan_segments ps) (sorted_ascends plan_cmp plan_total (fold joined [] ps))

pub scored : (ps : List WeightedPosting) (n : ℕ) → AllByRecursion (λ segment. cutoff_after n (plan_segments ps) ≤ segment.weight) (take n (plan_segments ps))
scored ps n = scored_at_least n (plan_segments ps) (plan_falls ps)

pub unscored : (ps : List WeightedPosting) (n : ℕ) → AllByRecursion (λ segment. segment.weight ≤ next_after n (plan_segments ps)) (drop n (plan_segments ps))
unscored ps n = unscored_at_most n (plan_segments ps) (plan_falls ps)

pub parted : (ps : List WeightedPosting) (n : ℕ) → 1 ≤ n → next_after n (plan_segments ps) ≤ cutoff_after n (plan_segments ps)
parted ps zero h = absurd (omega arith)
parted ps (suc n) h = next_below n (plan_segments ps) (plan_falls ps)

-- ---- the heaviest

choice_le : {A : Type 0} (f : A → ℕ) (choice : List Bool) (xs : List A) → sum_by f (items_where_true choice xs) ≤ sum_by f xs
choice_le f [] xs = omega arith
choice_le f (b ∷ choice) [] = omega arith
choice_le f (true ∷ choice) (x ∷ xs) = let a = sum_by-cons f x (items_where_true choice xs) in let b = sum_by-cons f x xs in let rest = choice_le f choice xs in omega arith
choice_le f (false ∷ choice) (x ∷ xs) = let b = sum_by-cons f x xs in let rest = choice_le f choice xs in omega arith

-- above a weight, and up to it
above : (cut : ℕ) (ps : List WeightedPosting) → sum_by (λ p. p.weight) ps ≤ cut * length ps + sum_by (λ p. p.weight - cut) ps
above cut [] = omega arith
above cut (p ∷ ps) =
    let a = sum_by-cons (λ (p : WeightedPosting). p.weight) p ps in
    let b = sum_by-cons (λ (p : WeightedPosting). p.weight - cut) p ps in
    let rest = above cut ps in
    let more : cut * suc (length ps) ≡ cut + cut * length ps = omega arith in
    rw (a, b, more) (omega arith)

abbrev excess : ℕ → PlanSegment → ℕ
excess cut segment = (segment.weight - cut) * length segment.docs

first_excess : (cut : ℕ) (p : WeightedPosting) → (p.weight - cut) * 1 ≡ p.weight - cut
first_excess cut p = omega arith

next_excess : (cut : ℕ) (c : PlanSegment) (p : WeightedPosting) → is_of c p ≡ true → excess cut (more c p.doc) ≡ excess cut c + (p.weight - cut)
next_excess cut c p e =
    let same : c.weight ≡ p.weight = grind (arith, nat_tests) in
    let long : length (c.docs ++ p.doc ∷ []) ≡ length c.docs + 1 = length-append c.docs (p.doc ∷ []) in
    let cut_same : c.weight - cut ≡ p.weight - cut = ap (λ w. w - cut) same in
    let product : (c.weight - cut) * (length c.docs + 1) ≡ (c.weight - cut) * length c.docs + (c.weight - cut) = omega arith in
    rw long (product ∙ ap (λ w. excess cut c + w) cut_same)

spread : (k cut s : ℕ) → k * s + cut * s ≡ (k + cut) * s
spread k cut s = omega arith

empty : {A : Type 0} (f : A → ℕ) (xs : List A) → length xs ≡ 0 → sum_by f xs ≤ 0
empty f [] e = omega arith
empty f (x ∷ xs) e = absurd (omega arith)

-- scored segments are at least as heavy as the cut
full : (cut : ℕ) (cs : List PlanSegment) → AllByRecursion (λ segment. cut ≤ segment.weight) cs → sum_by (excess cut) cs + cut * sum_by (λ (segment : PlanSegment). length segment.docs) cs ≡ sum_by (λ (segment : PlanSegment). segment.weight * length segment.docs) cs
full cut [] h = omega arith
full cut (c ∷ cs) h =
    let a = sum_by-cons (excess cut) c cs in
    let b = sum_by-cons (λ (segment : PlanSegment). length segment.docs) c cs in
    let d = sum_by-cons (λ (segment : PlanSegment). segment.weight * length segment.docs) c cs in
    let rest = full cut cs h.1 in
    let one : (c.weight - cut) * length c.docs + cut * length c.docs ≡ c.weight * length c.docs = product c.weight cut (length c.docs) h.0 in
    let spread : cut * (length c.docs + sum_by (λ (segment : PlanSegment). length segment.docs) cs) ≡ cut * length c.docs + cut * sum_by (λ (segment : PlanSegment). length segment.docs) cs = omega arith in
    rw (a, b, d, spread) (omega arith)
  where
    product : (w cut s : ℕ) → cut ≤ w → (w - cut) * s + cut * s ≡ w * s
    product w cut s h = spread (w - cut) cut s ∙ ap (λ v. v * s) (let e : w - cut + cut ≡ w = omega arith in e)

none : (cut : ℕ) (cs : List PlanSegment) → AllByRecursion (λ segment. segment.weight ≤ cut) cs → sum_by (excess cut) cs ≡ 0
none cut [] h = refl
none cut (c ∷ cs) h =
    let a = sum_by-cons (excess cut) c cs in
    let zero_weight : c.weight - cut ≡ 0 = (let less = h.0 in omega arith) in
    let rest = none cut cs h.1 in
    rw (a, zero_weight, rest) (omega arith)

all_up_to : (m n : ℕ) (cs : List PlanSegment) → m ≤ n → AllByRecursion (λ segment. segment.weight ≤ m) cs → AllByRecursion (λ segment. segment.weight ≤ n) cs
all_up_to m n [] h a = tt
all_up_to m n (c ∷ cs) h a = (let less = a.0 in omega arith, all_up_to m n cs h a.1)

pub heaviest : (n : ℕ) (ps : List WeightedPosting) → IsHeaviest n ps
heaviest zero ps choice size = empty (λ p. p.weight) (items_where_true choice ps) size
heaviest (suc n) ps choice size =
    let cut = cutoff_after (suc n) (plan_segments ps) in
    let chosen = items_where_true choice ps in
    let a = above cut chosen in
    let b = choice_le (λ (p : WeightedPosting). p.weight - cut) choice ps in
    let total = segments_sum (excess cut) (λ p. p.weight - cut) (first_excess cut) (next_excess cut) ps in
    let parts = sum_by-take-drop (excess cut) (plan_segments ps) (suc n) in
    let back = none cut (drop (suc n) (plan_segments ps)) (all_up_to _ cut _ (parted ps (suc n) (omega arith)) (unscored ps (suc n))) in
    omega (arith, full cut (take (suc n) (plan_segments ps)) (scored ps (suc n)), ap (λ k. cut * k) size)
