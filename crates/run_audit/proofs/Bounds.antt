-- The sum of a list whose items are known.
use Rattle.shared_lemmas.proofs.Common.{◌≡◌, ℕ, ◌<◌, List, length, get_or, map, sym, ap, ◌∙◌, arith, sum_by, range_with_len, ext_get_or, get_or-map-range_with_len, length-map-range_with_len}
use Rattle.shared_lemmas.proofs.Sums.{sum_map}

pub sum_of_all : (f : ℕ → ℕ) (xs : List ℕ) (n : ℕ) → length xs ≡ n → ((i : ℕ) → i < length xs → get_or xs i 0 ≡ f i) → sum_by (λ x. x) xs ≡ sum_by f (range_with_len 0 n)
sum_of_all f xs n long each =
    ap (sum_by (λ x. x)) (ext_get_or 0 xs (map f (range_with_len 0 n)) (long ∙ sym (length-map-range_with_len f 0 n)) (λ i h. each i h ∙ sym (get_or-map-range_with_len f 0 n i i 0 (omega arith) (omega arith))))
    ∙ sum_map (λ x. x) f (range_with_len 0 n)
