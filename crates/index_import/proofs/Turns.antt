-- The items of a vector that a loop takes one by one.
use Rattle.shared_lemmas.proofs.Common.{◌≡◌, List, [], ◌∷◌, ◌++◌, length, Some, None, refl, sym, ap, ◌∙◌, All, Yields, into_iter_items, into_iter_len, into_iter_steps, IntoIter, YieldsList-from_vec, YieldsList-end, All-head, All-tail}
use Rattle.std.proofs.Common.{map-id}

module _ {X Z : Type 0} where
  -- what was given is a front of the items
  taken : (s : IntoIter X Z) (xs : List X) (t : IntoIter X Z) → Yields into_iter_steps s xs t → into_iter_items s ≡ xs ++ into_iter_items t
  taken s [] t y = ap into_iter_items y
  taken s (x ∷ xs) t y = y.1.0 ∙ ap (λ ys. x ∷ ys) (taken y.0 xs t y.2)

  pub parted : (s t u : IntoIter X Z) (all xs : List X) (x : X) → into_iter_items s ≡ all → Yields into_iter_steps s xs t → into_iter_steps t (Some x) u → all ≡ xs ++ x ∷ into_iter_items u
  parted s t u all xs x start given step = sym start ∙ taken s xs t given ∙ ap (λ (ys : List X). xs ++ ys) step.0

  pub whole : (s t u : IntoIter X Z) (all xs : List X) → into_iter_items s ≡ all → into_iter_len s ≡ length all → Yields into_iter_steps s xs t → into_iter_steps t None u → xs ≡ all
  whole s t u all xs start size given step = sym (map-id xs) ∙ (YieldsList-end (YieldsList-from_vec all start size) xs t given None u refl step).0

pub middle : {X : Type 0} (P : X → Type 0) (xs ys : List X) (x : X) → All P (xs ++ x ∷ ys) → P x
middle P [] ys x h = All-head P x ys h
middle P (y ∷ xs) ys x h = middle P xs ys x (All-tail P y (xs ++ x ∷ ys) h)
