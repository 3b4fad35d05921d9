-- What holds of each item of a list.
use Rattle.shared_lemmas.proofs.Common.{◌≡◌, ℕ, zero, suc, List, [], ◌∷◌, ◌++◌, map, take, drop, filter, All, Bool, true, refl, ap, subst, arith, inl, inr, AllByRecursion, flat_map, AllZip, cases_Bool, get_or-map, length-map}

module _ {A : Type 0} where
  pub all_of : (P : A → Type 0) → ((x : A) → P x) → (xs : List A) → AllByRecursion P xs
  all_of P f [] = tt
  all_of P f (x ∷ xs) = (f x, all_of P f xs)

  pub all_weaker : (P Q : A → Type 0) → ((x : A) → P x → Q x) → (xs : List A) → AllByRecursion P xs → AllByRecursion Q xs
  all_weaker P Q f [] h = tt
  all_weaker P Q f (x ∷ xs) h = (f x h.0, all_weaker P Q f xs h.1)

  pub all_both : (P Q : A → Type 0) (xs : List A) → AllByRecursion P xs → AllByRecursion Q xs → AllByRecursion (λ x. P x × Q x) xs
  all_both P Q [] h k = tt
  all_both P Q (x ∷ xs) h k = ((h.0, k.0), all_both P Q xs h.1 k.1)

  -- all of one list with all of another
  pub all_across : (P Q : A → Type 0) (R : A → A → Type 0) → ((x y : A) → P x → Q y → R x y) → (xs ys : List A)
      → AllByRecursion P xs → AllByRecursion Q ys → AllByRecursion (λ x. AllByRecursion (λ y. R x y) ys) xs
  all_across P Q R f xs ys h k = all_weaker P (λ x. AllByRecursion (λ y. R x y) ys) (λ x p. all_weaker Q (λ y. R x y) (λ y q. f x y p q) ys k) xs h

-- ---- parts

module _ {A : Type 0} (P : A → Type 0) where
  pub all_append : (xs ys : List A) → AllByRecursion P xs → AllByRecursion P ys → AllByRecursion P (xs ++ ys)
  all_append [] ys h k = k
  all_append (x ∷ xs) ys h k = (h.0, all_append xs ys h.1 k)

  pub all_front : (xs ys : List A) → AllByRecursion P (xs ++ ys) → AllByRecursion P xs
  all_front [] ys h = tt
  all_front (x ∷ xs) ys h = (h.0, all_front xs ys h.1)

  pub all_back : (xs ys : List A) → AllByRecursion P (xs ++ ys) → AllByRecursion P ys
  all_back [] ys h = h
  all_back (x ∷ xs) ys h = all_back xs ys h.1

  pub all_take : (n : ℕ) (xs : List A) → AllByRecursion P xs → AllByRecursion P (take n xs)
  all_take zero xs h = tt
  all_take (suc n) [] h = tt
  all_take (suc n) (x ∷ xs) h = (h.0, all_take n xs h.1)

  pub all_drop : (n : ℕ) (xs : List A) → AllByRecursion P xs → AllByRecursion P (drop n xs)
  all_drop zero xs h = h
  all_drop (suc n) [] h = tt
  all_drop (suc n) (x ∷ xs) h = all_drop n xs h.1

  pub all_filter : (p : A → Bool) (xs : List A) → AllByRecursion P xs → AllByRecursion P (filter p xs)
  all_filter p [] h = tt
  all_filter p (x ∷ xs) h = let rest = all_filter p xs h.1 in elim (cases_Bool (p x)) [ inl t ↦ rw t (h.0, rest) | inr f ↦ rw f rest ]

-- ---- what passes a test

pub filter_passes : {A : Type 0} (p : A → Bool) (xs : List A) → AllByRecursion (λ x. p x ≡ true) (filter p xs)
filter_passes p [] = tt
filter_passes p (x ∷ xs) = let rest = filter_passes p xs in elim (cases_Bool (p x)) [ inl t ↦ rw t (t, rest) | inr f ↦ rw f rest ]

pub filter_all : {A : Type 0} (p : A → Bool) (xs : List A) → AllByRecursion (λ x. p x ≡ true) xs → filter p xs ≡ xs
filter_all p [] h = refl
filter_all p (x ∷ xs) h = let t = h.0 in rw t (ap (λ l. x ∷ l) (filter_all p xs h.1))

-- ---- maps

module _ {A B : Type 0} (P : B → Type 0) where
  pub all_map : (f : A → B) (xs : List A) → AllByRecursion (λ x. P (f x)) xs → AllByRecursion P (map f xs)
  all_map f [] h = tt
  all_map f (x ∷ xs) h = (h.0, all_map f xs h.1)

  pub all_unmap : (f : A → B) (xs : List A) → AllByRecursion P (map f xs) → AllByRecursion (λ x. P (f x)) xs
  all_unmap f [] h = tt
  all_unmap f (x ∷ xs) h = (h.0, all_unmap f xs h.1)

  -- the same of `All`, which is by places
  pub All-unmap : (f : A → B) (xs : List A) → All P (map f xs) → All (λ x. P (f x)) xs
  All-unmap f xs are = λ i d inside. subst P (get_or-map f xs i d (f d) inside) (are i (f d) (omega (arith, inside, length-map xs f)))

  -- what holds of each item of each part
  pub all_flat : (f : A → List B) (xs : List A) → AllByRecursion (λ x. AllByRecursion P (f x)) xs → AllByRecursion P (flat_map f xs)
  all_flat f [] h = tt
  all_flat f (x ∷ xs) h = all_append P (f x) (flat_map f xs) h.0 (all_flat f xs h.1)

  pub all_parts : (f : A → List B) (xs : List A) → AllByRecursion P (flat_map f xs) → AllByRecursion (λ x. AllByRecursion P (f x)) xs
  all_parts f [] h = tt
  all_parts f (x ∷ xs) h = (all_front P (f x) (flat_map f xs) h, all_parts f xs (all_back P (f x) (flat_map f xs) h))

-- ---- two lists

pub zip-append : {A B : Type 0} (R : A → B → Type 0) (xs : List A) (ys : List B) (us : List A) (vs : List B) → AllZip R xs ys → AllZip R us vs → AllZip R (xs ++ us) (ys ++ vs)
zip-append R [] [] us vs h k = k
zip-append R [] (y ∷ ys) us vs h k = absurd h
zip-append R (x ∷ xs) [] us vs h k = absurd h
zip-append R (x ∷ xs) (y ∷ ys) us vs h k = (h.0, zip-append R xs ys us vs h.1 k)
