-- Being in a list.
use Rattle.shared_lemmas.proofs.Common.{◌≡◌, ◌⊎◌, ℕ, zero, suc, ◌<◌, List, [], ◌∷◌, length, get_or, refl, sym, subst, arith, inl, inr, Contains, AllByRecursion, All-from_recursion}

abbrev pub In : {A : Type 0} → A → List A → Type 0
In x [] = ⊥
In x (y ∷ ys) = (x ≡ y) ⊎ In x ys

pub in_from_contains : {A : Type 0} (xs : List A) (x : A) → Contains xs x → In x xs
in_from_contains [] x h = absurd (let k = h.1 in omega arith)
in_from_contains {A} (y ∷ ys) x h = at h.0 h.1 h.2 (λ k. in_from_contains ys x k) where
  at : (k : ℕ) → k < suc (length ys) → get_or (y ∷ ys) k x ≡ x → (Contains ys x → In x ys) → In x (y ∷ ys)
  at zero inside is later = inl (sym is)
  at (suc k) inside is later = inr (later (k, omega arith, is))

pub contains_from_in : {A : Type 0} (xs : List A) (x : A) → In x xs → Contains xs x
contains_from_in [] x h = absurd h
contains_from_in (y ∷ ys) x (inl e) = (0, omega arith, sym e)
contains_from_in {A} (y ∷ ys) x (inr there) = behind (contains_from_in ys x there) where
  behind : Contains ys x → Contains (y ∷ ys) x
  behind h = (suc h.0, (let k = h.1 in omega arith), h.2)

module _ {A : Type 0} (P : A → Type 0) where
  pub all_at : (xs : List A) (x : A) → AllByRecursion P xs → In x xs → P x
  all_at [] x h there = absurd there
  all_at (y ∷ ys) x h (inl e) = subst P (sym e) h.0
  all_at (y ∷ ys) x h (inr there) = all_at ys x h.1 there

  pub all_in : (xs : List A) → ((x : A) → In x xs → P x) → AllByRecursion P xs
  all_in [] h = tt
  all_in (x ∷ xs) h = (h x (inl refl), all_in xs (λ y there. h y (inr there)))

  pub all_contained : (xs : List A) (x : A) → AllByRecursion P xs → Contains xs x → P x
  all_contained xs x h c = subst P c.2 (All-from_recursion P xs h c.0 x c.1)

pub contains_behind : (x y : ℕ) (xs : List ℕ) → Contains xs x → Contains (y ∷ xs) x
contains_behind x y xs in_xs = (suc in_xs.0, (let h = in_xs.1 in omega arith), in_xs.2)

pub contains_first : (x y : ℕ) (xs : List ℕ) → y ≡ x → Contains (y ∷ xs) x
contains_first x y xs is = (0, omega arith, is)
