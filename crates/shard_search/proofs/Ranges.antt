-- Ranges of lists that grow.
use Rattle.shared_lemmas.proofs.Common.{◌≡◌, ◌≤◌, ◌<◌, ◌+◌, ◌-◌, ℕ, suc, List, [], ◌∷◌, length, map, take, drop, slice_range, slice_index_or, ap, ◌∙◌, refl, arith, drop-cons, drop-map, take-map, AllByRecursion}

module _ {A : Type 0} where
  -- an empty range
  pub range_none : (xs : List A) (from to : ℕ) → to ≤ from → slice_range xs from to ≡ []
  range_none xs from to over = let none : to - from ≡ 0 = omega (arith, over) in rw none refl

  -- a range's first item, and the rest
  pub range_cons : (xs : List A) (from to : ℕ) (d : A) → from < to → to ≤ length xs → slice_range xs from to ≡ slice_index_or xs from d ∷ slice_range xs (from + 1) to
  range_cons xs from to d less within =
      let one : to - from ≡ suc (to - (from + 1)) = omega (arith, less) in
      let next : suc from ≡ from + 1 = omega arith in
      ap (take (to - from)) (drop-cons xs from d (omega (arith, less, within)))
      ∙ rw one (ap (λ (n : ℕ). slice_index_or xs from d ∷ take (to - (from + 1)) (drop n xs)) next)

-- two maps of a list are the same where they are on each item
pub map_alike : {A B : Type 0} (f g : A → B) (xs : List A) → AllByRecursion (λ x. f x ≡ g x) xs → map f xs ≡ map g xs
map_alike f g [] same = refl
map_alike f g (x ∷ xs) same = rw (same.0, map_alike f g xs same.1) refl

-- a range of a map
pub map_range : {A B : Type 0} (f : A → B) (xs : List A) (from to : ℕ) → slice_range (map f xs) from to ≡ map f (slice_range xs from to)
map_range f xs from to = ap (take (to - from)) (drop-map f from xs) ∙ take-map f (to - from) (drop from xs)
