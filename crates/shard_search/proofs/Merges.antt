-- One step of merging two lists in order.
use Rattle.shared_lemmas.proofs.Common.{◌≡◌, List, [], ◌∷◌, Ordering, Less, Equal, Greater, refl, ap, sym}
use Rattle.index_model.specs.Merging.{merged}
use Rattle.shard_search.specs.Private.Heads.{head_order}

module _ {A : Type 0} (cmp : A → A → Ordering) (joined : A → A → A) where
  pub merged_nothing : (xs : List A) → merged cmp joined xs [] ≡ xs
  merged_nothing [] = refl
  merged_nothing (x ∷ xs) = refl

  pub takes_first : (x : A) (xs ys : List A) → head_order cmp (x ∷ xs) ys ≡ Less
      → merged cmp joined (x ∷ xs) ys ≡ x ∷ merged cmp joined xs ys
  takes_first x xs [] less = ap (λ (l : List A). x ∷ l) (sym (merged_nothing xs))
  takes_first x xs (y ∷ ys) less = rw less refl

  pub takes_second : (xs : List A) (y : A) (ys : List A) → head_order cmp xs (y ∷ ys) ≡ Greater
      → merged cmp joined xs (y ∷ ys) ≡ y ∷ merged cmp joined xs ys
  takes_second [] y ys greater = refl
  takes_second (x ∷ xs) y ys greater = rw greater refl

  pub takes_both : (x : A) (xs : List A) (y : A) (ys : List A) → cmp x y ≡ Equal
      → merged cmp joined (x ∷ xs) (y ∷ ys) ≡ joined x y ∷ merged cmp joined xs ys
  takes_both x xs y ys equal = rw equal refl
