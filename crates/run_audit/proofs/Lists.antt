-- Sums, orders and parts of lists of hits.
use Rattle.shared_lemmas.proofs.Common.{◌≡◌, ℕ, zero, suc, ◌+◌, List, [], ◌∷◌, ◌++◌, drop, filter, sum_by, count_by, Bool, true, false, cond, refl, sym, ap, ◌∙◌, arith, zero-add, IsPermutation, replicate, AllByRecursion, Ordering, Less, Equal, Greater, is_gt, IsTotalOrder, IsPermutation-refl}
use Rattle.shared_lemmas.proofs.Common.{IsPermutation-cons, IsPermutation-trans, IsPermutation-append_comm, IsPermutation-append_left, sum_by-cons, sum_by-append}
use Rattle.ranking_model.specs.Order.{placed, sorted}
use Rattle.shared_lemmas.proofs.Lists.{all_weaker, all_filter, filter_all}
use Rattle.ranking_model.proofs.Sorting.{Ascends, level, same_ranks, sorted_ascends, sum_by-sorted, all_sorted, ascends_append}

-- ---- sums

pub sum_by-filter : {A : Type 0} (p : A → Bool) (f : A → ℕ) (xs : List A) → sum_by f (filter p xs) ≡ sum_by (λ x. cond (p x) (f x) 0) xs
sum_by-filter p f [] = refl
sum_by-filter {A} p f (x ∷ xs) = step (p x) refl (sum_by-filter p f xs) where
  step : (b : Bool) → p x ≡ b → sum_by f (filter p xs) ≡ sum_by (λ x. cond (p x) (f x) 0) xs → sum_by f (filter p (x ∷ xs)) ≡ sum_by (λ x. cond (p x) (f x) 0) (x ∷ xs)
  step true e rest = rw (sum_by-cons (λ x. cond (p x) (f x) 0) x xs, e) (sum_by-cons f x (filter p xs) ∙ ap (λ n. f x + n) rest)
  step false e rest = rw (sum_by-cons (λ x. cond (p x) (f x) 0) x xs, e) (rw zero-add rest)

pub sum_by-same : {A : Type 0} (f g : A → ℕ) (xs : List A) → AllByRecursion (λ x. f x ≡ g x) xs → sum_by f xs ≡ sum_by g xs
sum_by-same f g [] h = refl
sum_by-same f g (x ∷ xs) h = let a = sum_by-cons f x xs in let b = sum_by-cons g x xs in let rest = sum_by-same f g xs h.1 in let first = h.0 in omega arith

-- ---- order

module _ {A : Type 0} (cmp : A → A → Ordering) (o : IsTotalOrder cmp) (same : (x y : A) → cmp x y ≡ Equal → x ≡ y) where
  copies : (z : A) (zs : List A) → filter (level cmp z) zs ≡ replicate (count_by (level cmp z) zs) z
  copies z [] = refl
  copies z (w ∷ ws) = step (cmp z w) refl (copies z ws) where
    step : (r : Ordering) → cmp z w ≡ r → filter (level cmp z) ws ≡ replicate (count_by (level cmp z) ws) z → filter (level cmp z) (w ∷ ws) ≡ replicate (count_by (level cmp z) (w ∷ ws)) z
    step Less e rest = rw (sum_by-cons (λ x. cond (level cmp z x) 1 0) w ws, e) (rw zero-add rest)
    step Equal e rest = rw (sum_by-cons (λ x. cond (level cmp z x) 1 0) w ws, e) (let n : 1 + count_by (level cmp z) ws ≡ suc (count_by (level cmp z) ws) = omega arith in let first : z ≡ w = same z w e in rw n (λ i. sym first i ∷ rest i))
    step Greater e rest = rw (sum_by-cons (λ x. cond (level cmp z x) 1 0) w ws, e) (rw zero-add rest)

  -- two lists in order with the same sums
  pub one_order : (xs ys : List A) → Ascends cmp xs → Ascends cmp ys → ((f : A → ℕ) → sum_by f xs ≡ sum_by f ys) → xs ≡ ys
  one_order xs ys a b sums = same_ranks cmp o xs ys a b (λ z. copies z xs ∙ ap (λ n. replicate n z) (sums (λ x. cond (level cmp z x) 1 0)) ∙ sym (copies z ys))

  pub sorted_itself : (xs : List A) → Ascends cmp xs → sorted cmp xs ≡ xs
  sorted_itself xs a = one_order (sorted cmp xs) xs (sorted_ascends cmp o xs) a (λ f. sum_by-sorted cmp f xs)

  placed_moves : (x : A) (ys : List A) → IsPermutation (x ∷ ys) (placed cmp x ys)
  placed_moves x [] = IsPermutation-refl (x ∷ [])
  placed_moves x (y ∷ ys) = step (is_gt (cmp x y)) refl (placed_moves x ys) where
    step : (b : Bool) → is_gt (cmp x y) ≡ b → IsPermutation (x ∷ ys) (placed cmp x ys) → IsPermutation (x ∷ y ∷ ys) (placed cmp x (y ∷ ys))
    step true e rest = rw e (IsPermutation-trans (x ∷ y ∷ ys) (y ∷ x ∷ ys) (y ∷ placed cmp x ys) (IsPermutation-append_left ys (x ∷ y ∷ []) (y ∷ x ∷ []) (IsPermutation-append_comm (x ∷ []) (y ∷ []))) (IsPermutation-cons y (x ∷ ys) (placed cmp x ys) rest))
    step false e rest = rw e (IsPermutation-refl (x ∷ y ∷ ys))

  pub sorted_moves : (xs : List A) → IsPermutation xs (sorted cmp xs)
  sorted_moves [] = IsPermutation-refl []
  sorted_moves (x ∷ xs) = IsPermutation-trans (x ∷ xs) (x ∷ sorted cmp xs) (sorted cmp (x ∷ xs)) (IsPermutation-cons x xs (sorted cmp xs) (sorted_moves xs)) (placed_moves x (sorted cmp xs))

  -- what is in front of all the rest is ranked in front of it
  pub sorted_parts : (p : A → Bool) (all front back : List A) → ((f : A → ℕ) → sum_by f all ≡ sum_by f front + sum_by f back)
      → AllByRecursion (λ h. p h ≡ true) front → AllByRecursion (λ a. AllByRecursion (λ b. is_gt (cmp a b) ≡ false) back) front
      → sorted cmp (filter p all) ≡ sorted cmp front ++ sorted cmp (filter p back)
  sorted_parts p all front back sums passed above =
      one_order (sorted cmp (filter p all)) (sorted cmp front ++ sorted cmp (filter p back)) (sorted_ascends cmp o (filter p all))
      (ascends_append cmp (sorted cmp front) (sorted cmp (filter p back)) (sorted_ascends cmp o front) (sorted_ascends cmp o (filter p back)) pairs) by_sums
    where
      pairs : AllByRecursion (λ a. AllByRecursion (λ b. is_gt (cmp a b) ≡ false) (sorted cmp (filter p back))) (sorted cmp front)
      pairs = all_sorted cmp (λ a. AllByRecursion (λ b. is_gt (cmp a b) ≡ false) (sorted cmp (filter p back))) front
          (all_weaker (λ a. AllByRecursion (λ b. is_gt (cmp a b) ≡ false) back) (λ a. AllByRecursion (λ b. is_gt (cmp a b) ≡ false) (sorted cmp (filter p back)))
          (λ a h. all_sorted cmp (λ b. is_gt (cmp a b) ≡ false) (filter p back) (all_filter (λ b. is_gt (cmp a b) ≡ false) p back h)) front above)

      by_sums : (f : A → ℕ) → sum_by f (sorted cmp (filter p all)) ≡ sum_by f (sorted cmp front ++ sorted cmp (filter p back))
      by_sums f =
          let a = sum_by-sorted cmp f (filter p all) in
          let b = sum_by-filter p f all in
          let c = sums (λ x. cond (p x) (f x) 0) in
          let d = sum_by-filter p f front in
          let e = ap (sum_by f) (filter_all p front passed) in
          let g = sum_by-filter p f back in
          let h = sum_by-append f (sorted cmp front) (sorted cmp (filter p back)) in
          let i = sum_by-sorted cmp f front in
          let j = sum_by-sorted cmp f (filter p back) in
          omega arith

pub ascends_drop : {A : Type 0} (cmp : A → A → Ordering) (n : ℕ) (xs : List A) → Ascends cmp xs → Ascends cmp (drop n xs)
ascends_drop cmp zero xs h = h
ascends_drop cmp (suc n) [] h = tt
ascends_drop cmp (suc n) (x ∷ xs) h = ascends_drop cmp n xs h.1
