-- Filters of lists: by two tests, of a map, and of a list in order.
use Rattle.shared_lemmas.proofs.Common.{◌≡◌, ℕ, ◌+◌, List, [], ◌∷◌, filter, map, sum_by, Bool, true, false, refl, sym, ap, ap₂, ◌∙◌, AllByRecursion, IsTotalOrder, Ordering, sum_by-cons}
use Rattle.shared_lemmas.proofs.Lists.{all_filter}
use Rattle.asked_lists.proofs.Below.{Ascends, level, same_ranks, sorted, sorted_ascends, sorted_level}

module _ {A : Type 0} where
  -- tests that agree on each item
  pub filter_same : (p q : A → Bool) (xs : List A) → AllByRecursion (λ x. p x ≡ q x) xs → filter p xs ≡ filter q xs
  filter_same p q [] h = refl
  filter_same p q (x ∷ xs) h = step (q x) refl (filter_same p q xs h.1) where
    step : (b : Bool) → q x ≡ b → filter p xs ≡ filter q xs → filter p (x ∷ xs) ≡ filter q (x ∷ xs)
    step true e rest = let f : p x ≡ true = h.0 ∙ e in rw (e, f) (ap (λ (l : List A). x ∷ l) rest)
    step false e rest = let f : p x ≡ false = h.0 ∙ e in rw (e, f) rest

  pub sum_same : (f g : A → ℕ) (xs : List A) → AllByRecursion (λ x. f x ≡ g x) xs → sum_by f xs ≡ sum_by g xs
  sum_same f g [] h = refl
  sum_same f g (x ∷ xs) h = sum_by-cons f x xs ∙ ap₂ (λ (m n : ℕ). m + n) h.0 (sum_same f g xs h.1) ∙ sym (sum_by-cons g x xs)

  pub filter_turned : (p q : A → Bool) (xs : List A) → filter p (filter q xs) ≡ filter q (filter p xs)
  filter_turned p q [] = refl
  filter_turned p q (x ∷ xs) = step (p x) (q x) refl refl (filter_turned p q xs) where
    step : (b c : Bool) → p x ≡ b → q x ≡ c → filter p (filter q xs) ≡ filter q (filter p xs) → filter p (filter q (x ∷ xs)) ≡ filter q (filter p (x ∷ xs))
    step true true e f rest = rw (e, f, e) (ap (λ (l : List A). x ∷ l) rest)
    step true false e f rest = rw (e, f) rest
    step false true e f rest = rw (f, e) rest
    step false false e f rest = rw (e, f) rest

  -- what passes keeps the order
  pub ascends_filter : (cmp : A → A → Ordering) (p : A → Bool) (xs : List A) → Ascends cmp xs → Ascends cmp (filter p xs)
  ascends_filter cmp p [] h = tt
  ascends_filter cmp p (x ∷ xs) h = step (p x) refl (ascends_filter cmp p xs h.1) where
    step : (b : Bool) → p x ≡ b → Ascends cmp (filter p xs) → Ascends cmp (filter p (x ∷ xs))
    step true e rest = rw e (all_filter _ p xs h.0, rest)
    step false e rest = rw e rest

  pub sorted_filter : (cmp : A → A → Ordering) → IsTotalOrder cmp → (p : A → Bool) (xs : List A) → filter p (sorted cmp xs) ≡ sorted cmp (filter p xs)
  sorted_filter cmp total p xs =
      same_ranks cmp total (filter p (sorted cmp xs)) (sorted cmp (filter p xs)) (ascends_filter cmp p (sorted cmp xs) (sorted_ascends cmp total xs)) (sorted_ascends cmp total (filter p xs))
      (λ z. filter_turned (level cmp z) p (sorted cmp xs) ∙ ap (filter p) (sorted_level cmp total z xs) ∙ filter_turned p (level cmp z) xs ∙ sym (sorted_level cmp total z (filter p xs)))

pub filter_mapped : {A B : Type 0} (p : B → Bool) (f : A → B) (xs : List A) → filter p (map f xs) ≡ map f (filter (λ x. p (f x)) xs)
filter_mapped p f [] = refl
filter_mapped {A} {B} p f (x ∷ xs) = step (p (f x)) refl (filter_mapped p f xs) where
  step : (b : Bool) → p (f x) ≡ b → filter p (map f xs) ≡ map f (filter (λ y. p (f y)) xs) → filter p (map f (x ∷ xs)) ≡ map f (filter (λ y. p (f y)) (x ∷ xs))
  step true e rest = rw e (ap (λ (l : List B). f x ∷ l) rest)
  step false e rest = rw e rest
