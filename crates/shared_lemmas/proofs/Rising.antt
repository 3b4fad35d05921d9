-- Numbers that rise.
use Rattle.shared_lemmas.proofs.Common.{ℕ, zero, suc, ◌<◌, ◌≤◌, List, [], ◌∷◌, length, get_or, All, subst, arith, add-one, IsStrictlyIncreasing}

-- each is at least its place
pub place_below : (xs : List ℕ) (k : ℕ) → IsStrictlyIncreasing xs → k < length xs → k ≤ get_or xs k 0
place_below xs zero rising inside = omega arith
place_below xs (suc k) rising inside =
    let before : (j : ℕ) → suc j < length xs → get_or xs j 0 < get_or xs (suc j) 0 = λ j more. subst (λ (n : ℕ). get_or xs j 0 < get_or xs n 0) (add-one j) (rising j (omega (arith, more))) in
    omega (arith, place_below xs k rising (omega arith), before k (omega arith))

-- so there are no more than below their limit
pub few_below : (xs : List ℕ) (n : ℕ) → IsStrictlyIncreasing xs → All (λ x. x < n) xs → length xs ≤ n
few_below [] n rising below = omega arith
few_below (x ∷ xs) n rising below = omega (arith, place_below (x ∷ xs) (length xs) rising (omega arith), below (length xs) 0 (omega arith))
