-- Numbers by their bits, and lists by their places.
use Rattle.shared_lemmas.proofs.Common.{◌≡◌, ℕ, ◌+◌, [], ◌∷◌, ◌++◌, refl, arith, map-range_with_len_more}
use Rattle.lane_kernels.specs.Block.{list_of}

pub list_of_none : (f : ℕ → ℕ) → list_of f 0 ≡ []
unfolding list_of
list_of_none f = refl

pub list_of_more : (f : ℕ → ℕ) (n : ℕ) → list_of f (n + 1) ≡ list_of f n ++ f n ∷ []
unfolding list_of
list_of_more f n = map-range_with_len_more f 0 n n (omega arith)
