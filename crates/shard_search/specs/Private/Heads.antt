-- Which of two lists in order has the next item.
use Rattle.std.specs.Prelude.{List, [], ◌∷◌}
use Rattle.std.specs.declared.cmp.Ordering.{Ordering}
use Rattle.std.specs.declared.cmp.Ordering.TheVariants.{Less, Greater}

-- Less where the first list has the next item, Equal where both have it
abbrev pub head_order : {A : Type 0} → (A → A → Ordering) → List A → List A → Ordering
head_order cmp [] ys = Greater
head_order cmp (x ∷ xs) [] = Less
head_order cmp (x ∷ xs) (y ∷ ys) = cmp x y
