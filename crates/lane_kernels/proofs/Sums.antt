-- Sums of lanes.
use Rattle.shared_lemmas.proofs.Common.{◌≡◌, ℕ, ◌+◌, ◌*◌, ◌^◌, ◌<◌, ◌≤◌, List, [], ◌∷◌, ◌++◌, length, get_or, take, sum, sym, ap, ◌∙◌, refl, arith, Fits, map, subst, get_or_default, map-id, take_all, sum_by-cons, sum_by-append, sum_by-take-le, sum_by-le, take-add, adds_fit, sum_fits, sum-zip2}
use Rattle.shared_lemmas.proofs.Common.{fold-sum}
use Rattle.std.proofs.Common.{w64}
use lib.Lanes.{sum_l, chunk, Each2, zip2, Steps, fold_l}

pub sum_l_is : (xs : List ℕ) → sum_l xs ≡ sum xs
sum_l_is [] = refl
sum_l_is (x ∷ xs) = ap (λ n. x + n) (sum_l_is xs) ∙ sym (sum_by-cons (λ y. y) x xs)

-- a front and the lanes behind it
pub front_and_chunk : (xs : List ℕ) (i : ℕ) → take (i + 4) xs ≡ take i xs ++ chunk i 4 xs
front_and_chunk xs i = take-add i 4 xs

pub sum_with_chunk : (xs : List ℕ) (i : ℕ) → sum (take (i + 4) xs) ≡ sum (take i xs) + sum (chunk i 4 xs)
sum_with_chunk xs i = ap sum (front_and_chunk xs i) ∙ sum_by-append (λ y. y) (take i xs) (chunk i 4 xs)

pub sum_to_chunk_le : (xs : List ℕ) (i : ℕ) → sum (take i xs) + sum (chunk i 4 xs) ≤ sum xs
sum_to_chunk_le xs i = omega (arith, sum_with_chunk xs i, sum_by-take-le (λ y. y) xs (i + 4))

pub small_sum : (xs : List ℕ) → length xs ≡ 128 → ((k : ℕ) → get_or xs k 0 < 2 ^ 32) → sum xs ≤ 128 * 2 ^ 32
small_sum xs long fits = omega (arith, sum_by-le (λ y. y) (2 ^ 32) xs (λ k d h. omega (arith, get_or_default xs k d 0 h, fits k)))

module _ (xs sums : List ℕ) (i : ℕ) (long : length xs ≡ 128) (fits : (k : ℕ) → get_or xs k 0 < 2 ^ 32) (is : sum_l sums ≡ sum (take i xs)) where
  -- the lanes' sums stay far below 2 ^ 64
  pub sums_fit : (lanes : List ℕ) → lanes ≡ chunk i 4 xs → Each2 (λ a b. Fits w64 (a + b)) sums (map (λ (x : ℕ). x) lanes)
  sums_fit lanes loaded =
      subst (λ (ys : List ℕ). Each2 (λ a b. Fits w64 (a + b)) sums ys) (sym (map-id lanes ∙ loaded))
      (adds_fit w64 sums (chunk i 4 xs) (omega (arith, sum_l_is (chunk i 4 xs), sum_to_chunk_le xs i, small_sum xs long fits)))

  pub sums_more : (lanes : List ℕ) → lanes ≡ chunk i 4 xs → length sums ≡ 4 → length lanes ≡ 4
      → sum_l (zip2 (λ a b. a + b) sums (map (λ (x : ℕ). x) lanes)) ≡ sum (take (i + 4) xs)
  sums_more lanes loaded a b =
      ap (λ (ys : List ℕ). sum_l (zip2 (λ a b. a + b) sums ys)) (map-id lanes)
      ∙ sum-zip2 sums lanes (a ∙ sym b)
      ∙ omega (arith, is, ap sum_l loaded, sum_l_is (chunk i 4 xs), sum_with_chunk xs i)

  pub total_fits : Steps (λ s x. Fits w64 (s + x)) (λ s x. s + x) 0 sums
  total_fits = sum_fits w64 0 sums (omega (arith, is, sum_by-take-le (λ y. y) xs i, small_sum xs long fits))

  pub total_is : 128 ≤ i → (fold_l (λ s x. s + x) 0 sums ≡ sum xs) × (fold_l (λ s x. s + x) 0 sums < 2 ^ 40)
  total_is past =
      let all : fold_l (λ s x. s + x) 0 sums ≡ sum xs = fold-sum 0 sums ∙ omega (arith, is, ap sum (take_all i xs (omega arith))) in
      (all, omega (arith, all, small_sum xs long fits))
