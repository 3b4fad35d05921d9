-- The front of a block, raised document by document.
use Rattle.shared_lemmas.proofs.Common.{◌≡◌, ◌≤◌, ◌<◌, ◌+◌, ◌^◌, ℕ, List, [], ◌∷◌, ◌++◌, length, map, take, slice_index, slice_set, get_or, All, ap₂, sym, subst, ◌∙◌, arith, length-take-le, get_or-take, get_or-set_other, take_more_set, map_more}

module _ (block old : List ℕ) (i count base : ℕ) (here : i < count) (room : i < length block)
    (same : (k : ℕ) → i ≤ k → slice_index block k ≡ slice_index old k) where
  -- the next sum fits
  pub sum_fits : All (λ doc. base + doc < 2 ^ 32) (take count old) → count ≤ length old → base + slice_index block i < 2 ^ 32
  sum_fits fits long =
      let is : slice_index block i ≡ get_or (take count old) i 0 = same i (omega arith) ∙ sym (get_or-take count old i 0 here) in
      subst (λ (x : ℕ). base + x < 2 ^ 32) (sym is) (fits i 0 (let size = length-take-le count old long in omega (arith, size, here)))

  -- one more document is raised
  pub one_raised : i < length old → take i block ≡ map (λ doc. base + doc) (take i old)
      → take (i + 1) (slice_set block i (base + slice_index block i)) ≡ map (λ doc. base + doc) (take (i + 1) old)
  one_raised long raised =
      take_more_set block i (base + slice_index block i) room
      ∙ ap₂ (λ (xs : List ℕ) (x : ℕ). xs ++ (base + x) ∷ []) raised (same i (omega arith))
      ∙ sym (map_more (λ doc. base + doc) old i 0 long)

  pub others_stay : (k : ℕ) → i + 1 ≤ k → slice_index (slice_set block i (base + slice_index block i)) k ≡ slice_index old k
  others_stay k high = get_or-set_other block i k (base + slice_index block i) 0 (λ is. omega (arith, is, high)) ∙ same k (omega (arith, high))
