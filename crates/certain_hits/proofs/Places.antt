-- Where an item stands in a list in order, by how many are before it.
use Rattle.shared_lemmas.proofs.Common.{◌≡◌, ℕ, zero, suc, ◌+◌, ◌<◌, ◌≤◌, List, [], ◌∷◌, take, count_by, Bool, true, false, true≢false, not, cond, refl, sym, ap, subst, ◌∙◌, arith, inl, inr, sum_by-cons, slice_get, Option, Some, None}
use Rattle.shared_lemmas.proofs.Common.{AllByRecursion, Ordering, Less, Equal, Greater, is_lt, is_gt, ordering_reverse, IsAntisymmetric, IsTotalOrder}
use Rattle.std.specs.Cmp.{tied_itself}
use Rattle.shared_lemmas.proofs.Members.{In}
use Rattle.ranking_model.proofs.Sorting.{Ascends}

-- a condition on one item, where there is one
abbrev pub OnNext : {A : Type 0} → (A → Bool) → Option A → Bool
OnNext p None = true
OnNext p (Some x) = p x

module _ {A : Type 0} (cmp : A → A → Ordering) (o : IsTotalOrder cmp) (same : IsAntisymmetric cmp) where
  -- how many of a list are before an item
  abbrev pub before : A → List A → ℕ
  before x ys = count_by (λ y. is_lt (cmp y x)) ys

  -- how many it isn't before
  abbrev pub not_after : A → List A → ℕ
  not_after x ys = count_by (λ y. not (is_lt (cmp x y))) ys

  at_most_one : (b : Bool) → cond {A = ℕ} b 1 0 ≤ 1
  at_most_one true = omega arith
  at_most_one false = omega arith

  flip : (x y : A) → is_lt (cmp y x) ≡ is_gt (cmp x y)
  flip x y = turn (cmp x y) (cmp y x) (o.antisymm x y) where
    turn : (r s : Ordering) → r ≡ ordering_reverse s → is_lt s ≡ is_gt r
    turn r Less e = rw e refl
    turn r Equal e = rw e refl
    turn r Greater e = rw e refl

  not_itself : (x : A) → is_lt (cmp x x) ≡ false
  not_itself x = ap is_lt (tied_itself o x)

  level : (x y : A) → is_lt (cmp y x) ≡ false → is_gt (cmp y x) ≡ false → y ≡ x
  level x y f g = by (cmp y x) refl f g where
    by : (r : Ordering) → cmp y x ≡ r → is_lt r ≡ false → is_gt r ≡ false → y ≡ x
    by Less e f g = absurd (true≢false f)
    by Equal e f g = same y x e
    by Greater e f g = absurd (true≢false g)

  none_before : (x : A) (ys : List A) → AllByRecursion (λ y. is_gt (cmp x y) ≡ false) ys → before x ys ≡ 0
  none_before x [] h = refl
  none_before x (y ∷ ys) h =
      let f : is_lt (cmp y x) ≡ false = flip x y ∙ h.0 in
      let s = sum_by-cons (λ y. cond (is_lt (cmp y x)) 1 0) y ys in
      let rest = none_before x ys h.1 in
      rw (s, f) (omega arith)

  -- fewer than k before it: it is among the first k
  pub in_front : (x : A) (k : ℕ) (ys : List A) → Ascends cmp ys → In x ys → before x ys < k → In x (take k ys)
  in_front x k [] order there few = absurd there
  in_front x zero (y ∷ ys) order there few = absurd (omega arith)
  in_front x (suc k) (y ∷ ys) order (inl e) few = inl e
  in_front x (suc k) (y ∷ ys) order (inr there) few = step (is_lt (cmp y x)) refl (λ less. in_front x k ys order.1 there less) where
    split : before x (y ∷ ys) ≡ cond (is_lt (cmp y x)) 1 0 + before x ys
    split = sum_by-cons (λ y. cond (is_lt (cmp y x)) 1 0) y ys

    follows : (zs : List A) → AllByRecursion (λ z. is_gt (cmp y z) ≡ false) zs → In x zs → is_gt (cmp y x) ≡ false
    follows [] h k = absurd k
    follows (z ∷ zs) h (inl e) = subst (λ w. is_gt (cmp y w) ≡ false) (sym e) h.0
    follows (z ∷ zs) h (inr k) = follows zs h.1 k

    step : (b : Bool) → is_lt (cmp y x) ≡ b → (before x ys < k → In x (take k ys)) → In x (take (suc k) (y ∷ ys))
    step true t rest = inr (rest (let one : cond {A = ℕ} (is_lt (cmp y x)) 1 0 ≡ 1 = rw t refl in omega (arith, split, one)))
    step false f rest = inl (sym (level x y f (follows ys order.0 there)))

  -- and the other way round
  pub front_few : (x : A) (k : ℕ) (ys : List A) → Ascends cmp ys → In x (take k ys) → before x ys < k
  front_few x zero ys order there = absurd there
  front_few x (suc k) [] order there = absurd there
  front_few x (suc k) (y ∷ ys) order (inl e) =
      let none : before y ys ≡ 0 = none_before y ys order.0 in
      let here : before x ys ≡ 0 = ap (λ z. before z ys) e ∙ none in
      let mine : is_lt (cmp y x) ≡ false = ap (λ z. is_lt (cmp y z)) e ∙ not_itself y in
      let s = sum_by-cons (λ y. cond (is_lt (cmp y x)) 1 0) y ys in
      rw (s, mine) (omega arith)
  front_few x (suc k) (y ∷ ys) order (inr there) =
      let s = sum_by-cons (λ y. cond (is_lt (cmp y x)) 1 0) y ys in
      let rest = front_few x k ys order.1 there in
      let most = at_most_one (is_lt (cmp y x)) in
      omega arith

  -- ---- the item after the first k

  is_less : (x y : A) → is_lt (cmp x y) ≡ true → cmp x y ≡ Less
  is_less x y t = by (cmp x y) t where
    by : (r : Ordering) → is_lt r ≡ true → r ≡ Less
    by Less e = refl
    by Equal e = absurd (true≢false (sym e))
    by Greater e = absurd (true≢false (sym e))

  less_through : (x y z : A) → is_lt (cmp x y) ≡ true → is_gt (cmp y z) ≡ false → is_lt (cmp x z) ≡ true
  less_through x y z t g = by (cmp y z) refl g where
    by : (r : Ordering) → cmp y z ≡ r → is_gt r ≡ false → is_lt (cmp x z) ≡ true
    by Less e f = ap is_lt (o.trans x y z (is_less x y t) e)
    by Equal e f = subst (λ w. is_lt (cmp x w) ≡ true) (same y z e) t
    by Greater e f = absurd (true≢false f)

  all_after : (x y : A) (ys : List A) → is_lt (cmp x y) ≡ true → AllByRecursion (λ z. is_gt (cmp y z) ≡ false) ys → not_after x ys ≡ 0
  all_after x y [] t h = refl
  all_after x y (z ∷ zs) t h =
      let less = less_through x y z t h.0 in
      let s = sum_by-cons (λ y. cond (not (is_lt (cmp x y))) 1 0) z zs in
      let rest = all_after x y zs t h.1 in
      rw (s, less) (omega arith)

  -- an item is before the one after the first k exactly where it isn't before at most k
  pub few_by_next : (x : A) (k : ℕ) (ys : List A) → Ascends cmp ys → OnNext (λ y. is_lt (cmp x y)) (slice_get ys k) ≡ true → not_after x ys ≤ k
  few_by_next x k [] order t = omega arith
  few_by_next x zero (y ∷ ys) order t =
      let s = sum_by-cons (λ y. cond (not (is_lt (cmp x y))) 1 0) y ys in
      let rest = all_after x y ys t order.0 in
      rw (s, t) (omega arith)
  few_by_next x (suc k) (y ∷ ys) order t =
      let s = sum_by-cons (λ y. cond (not (is_lt (cmp x y))) 1 0) y ys in
      let rest = few_by_next x k ys order.1 t in
      let most = at_most_one (not (is_lt (cmp x y))) in
      omega arith

  pub next_by_few : (x : A) (k : ℕ) (ys : List A) → Ascends cmp ys → not_after x ys ≤ k → OnNext (λ y. is_lt (cmp x y)) (slice_get ys k) ≡ true
  next_by_few x k [] order few = refl
  next_by_few x zero (y ∷ ys) order few = by (is_lt (cmp x y)) refl where
    split : not_after x (y ∷ ys) ≡ cond (not (is_lt (cmp x y))) 1 0 + not_after x ys
    split = sum_by-cons (λ y. cond (not (is_lt (cmp x y))) 1 0) y ys

    by : (b : Bool) → is_lt (cmp x y) ≡ b → is_lt (cmp x y) ≡ true
    by true e = e
    by false e = absurd (let one : cond {A = ℕ} (not (is_lt (cmp x y))) 1 0 ≡ 1 = rw e refl in omega (arith, split, one))
  next_by_few x (suc k) (y ∷ ys) order few = next_by_few x k ys order.1 (by (is_lt (cmp x y)) refl) where
    split : not_after x (y ∷ ys) ≡ cond (not (is_lt (cmp x y))) 1 0 + not_after x ys
    split = sum_by-cons (λ y. cond (not (is_lt (cmp x y))) 1 0) y ys

    by : (b : Bool) → is_lt (cmp x y) ≡ b → not_after x ys ≤ k
    by true e = let none = all_after x y ys e order.0 in omega arith
    by false e = let one : cond {A = ℕ} (not (is_lt (cmp x y))) 1 0 ≡ 1 = rw e refl in omega (arith, split, one)
