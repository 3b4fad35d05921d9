-- What holds of all pairs of a list, by recursion.
use Rattle.shared_lemmas.proofs.Common.{ℕ, zero, suc, ◌+◌, ◌<◌, List, [], ◌∷◌, ◌++◌, map, length, get_or, arith, ⊤, AllPairs, AllByRecursion, IsStrictlyIncreasing, All-from_recursion, AllPairs-from_increasing}
use Rattle.shared_lemmas.proofs.Lists.{all_weaker, all_both, all_append, all_front, all_back, all_map, all_unmap}

abbrev pub Pairs : {A : Type 0} → (A → A → Type 0) → List A → Type 0
Pairs R [] = ⊤
Pairs R (x ∷ xs) = AllByRecursion (λ y. R x y) xs × Pairs R xs

pub pairs_by_recursion : {A : Type 0} (R : A → A → Type 0) (xs : List A) → AllPairs R xs → Pairs R xs
pairs_by_recursion R [] h = tt
pairs_by_recursion {A} R (x ∷ xs) h = (behind xs (λ j d k. h 0 (suc j) d (omega arith) (omega arith)), pairs_by_recursion R xs (λ i j d a b. h (suc i) (suc j) d (omega arith) (omega arith))) where
  behind : (ys : List A) → ((j : ℕ) (d : A) → j < length ys → R x (get_or ys j d)) → AllByRecursion (λ y. R x y) ys
  behind [] k = tt
  behind (y ∷ ys) k = (k 0 y (omega arith), behind ys (λ j d a. k (suc j) d (omega arith)))

pub pairs_by_places : {A : Type 0} (R : A → A → Type 0) (xs : List A) → Pairs R xs → AllPairs R xs
pairs_by_places R [] h i j d a b = absurd (omega arith)
pairs_by_places R (x ∷ xs) h i zero d a b = absurd (omega arith)
pairs_by_places R (x ∷ xs) h zero (suc j) d a b = All-from_recursion (λ y. R x y) xs h.0 j d (omega arith)
pairs_by_places R (x ∷ xs) h (suc i) (suc j) d a b = pairs_by_places R xs h.1 i j d (omega arith) (omega arith)

module _ {A : Type 0} where
  pub pairs_weaker : (R S : A → A → Type 0) → ((x y : A) → R x y → S x y) → (xs : List A) → Pairs R xs → Pairs S xs
  pairs_weaker R S f [] h = tt
  pairs_weaker R S f (x ∷ xs) h = (all_weaker (λ y. R x y) (λ y. S x y) (λ y. f x y) xs h.0, pairs_weaker R S f xs h.1)

  pub pairs_both : (R S : A → A → Type 0) (xs : List A) → Pairs R xs → Pairs S xs → Pairs (λ x y. R x y × S x y) xs
  pairs_both R S [] h k = tt
  pairs_both R S (x ∷ xs) h k = (all_both (λ y. R x y) (λ y. S x y) xs h.0 k.0, pairs_both R S xs h.1 k.1)

  pub pairs_front : (R : A → A → Type 0) (xs ys : List A) → Pairs R (xs ++ ys) → Pairs R xs
  pairs_front R [] ys h = tt
  pairs_front R (x ∷ xs) ys h = (all_front (λ y. R x y) xs ys h.0, pairs_front R xs ys h.1)

  pub pairs_back : (R : A → A → Type 0) (xs ys : List A) → Pairs R (xs ++ ys) → Pairs R ys
  pairs_back R [] ys h = h
  pairs_back R (x ∷ xs) ys h = pairs_back R xs ys h.1

  -- each item of the front with each of the back
  pub pairs_across : (R : A → A → Type 0) (xs ys : List A) → Pairs R (xs ++ ys) → AllByRecursion (λ x. AllByRecursion (λ y. R x y) ys) xs
  pairs_across R [] ys h = tt
  pairs_across R (x ∷ xs) ys h = (all_back (λ y. R x y) xs ys h.0, pairs_across R xs ys h.1)

  pub pairs_append : (R : A → A → Type 0) (xs ys : List A) → Pairs R xs → Pairs R ys → AllByRecursion (λ x. AllByRecursion (λ y. R x y) ys) xs → Pairs R (xs ++ ys)
  pairs_append R [] ys h k a = k
  pairs_append R (x ∷ xs) ys h k a = (all_append (λ y. R x y) xs ys h.0 a.0, pairs_append R xs ys h.1 k a.1)

pub pairs_unmap : {A B : Type 0} (R : B → B → Type 0) (f : A → B) (xs : List A) → Pairs R (map f xs) → Pairs (λ x y. R (f x) (f y)) xs
pairs_unmap R f [] h = tt
pairs_unmap R f (x ∷ xs) h = (all_unmap (λ y. R (f x) y) f xs h.0, pairs_unmap R f xs h.1)

pub pairs_map : {A B : Type 0} (R : B → B → Type 0) (f : A → B) (xs : List A) → Pairs (λ x y. R (f x) (f y)) xs → Pairs R (map f xs)
pairs_map R f [] h = tt
pairs_map R f (x ∷ xs) h = (all_map (λ y. R (f x) y) f xs h.0, pairs_map R f xs h.1)

-- the same of `AllPairs`, which is by places
pub AllPairs-unmap : {A B : Type 0} (R : B → B → Type 0) (f : A → B) (xs : List A) → AllPairs R (map f xs) → AllPairs (λ (x y : A). R (f x) (f y)) xs
AllPairs-unmap {A} R f xs pairs = pairs_by_places (λ (x y : A). R (f x) (f y)) xs (pairs_unmap R f xs (pairs_by_recursion R (map f xs) pairs))

pub rising_pairs : (xs : List ℕ) → IsStrictlyIncreasing xs → Pairs (λ x y. x < y) xs
rising_pairs xs h = pairs_by_recursion (λ x y. x < y) xs (AllPairs-from_increasing xs h)

pub rising_from_pairs : (xs : List ℕ) → Pairs (λ x y. x < y) xs → IsStrictlyIncreasing xs
rising_from_pairs xs h k low = pairs_by_places (λ x y. x < y) xs h k (k + 1) 0 (omega arith) low
