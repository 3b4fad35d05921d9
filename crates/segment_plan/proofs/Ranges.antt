-- Sums over the numbers below n.
use Rattle.shared_lemmas.proofs.Common.{◌≡◌, ℕ, suc, zero, ◌+◌, ◌*◌, ◌<◌, ◌≤◌, ◌≢◌, refl, sym, ap, ◌∙◌, arith, inl, inr, ◌⊎◌, sum_by, range_with_len, sum_by_push, cases_eq}
use Rattle.shared_lemmas.proofs.Sums.{range_push}

pub sum_more : (f : ℕ → ℕ) (n : ℕ) → sum_by f (range_with_len 0 (suc n)) ≡ sum_by f (range_with_len 0 n) + f n
sum_more f n = let one : n + 1 ≡ suc n = omega arith in ap (λ m. sum_by f (range_with_len 0 m)) (sym one) ∙ (ap (sum_by f) (range_push 0 n) ∙ sum_by_push f (range_with_len 0 n) (0 + n) ∙ ap (λ m. sum_by f (range_with_len 0 n) + f m) (omega arith))

pub sums_agree : (f g : ℕ → ℕ) (n : ℕ) → ((q : ℕ) → q < n → f q ≡ g q) → sum_by f (range_with_len 0 n) ≡ sum_by g (range_with_len 0 n)
sums_agree f g zero h = refl
sums_agree f g (suc n) h = let here = h n (omega arith) in let rest = sums_agree f g n (λ q k. h q (omega arith)) in let a = sum_more f n in let b = sum_more g n in omega arith

-- two sums that differ at one number
pub sums_differ : (f g : ℕ → ℕ) (n at more : ℕ) → at < n → ((q : ℕ) → q < n → q ≢ at → f q ≡ g q) → f at ≡ g at + more → sum_by f (range_with_len 0 n) ≡ sum_by g (range_with_len 0 n) + more
sums_differ f g zero at more h others here = absurd (omega arith)
sums_differ f g (suc n) at more h others here = by (cases_eq at n) (λ k. sums_differ f g n at more k (λ q a b. others q (omega arith) b) here) where
  by : (at ≡ n) ⊎ (at ≢ n) → (at < n → sum_by f (range_with_len 0 n) ≡ sum_by g (range_with_len 0 n) + more) → sum_by f (range_with_len 0 (suc n)) ≡ sum_by g (range_with_len 0 (suc n)) + more
  by (inl e) rest =
      let same = sums_agree f g n (λ q k. others q (omega arith) (λ i. omega (arith, i, k, e))) in
      let last : f n ≡ g n + more = rw e at here in
      let a = sum_more f n in let b = sum_more g n in
      omega arith
  by (inr e) rest = let same = rest (omega arith) in let last = others n (omega arith) (λ i. e (sym i)) in let a = sum_more f n in let b = sum_more g n in omega arith

pub sum_bounded : (f : ℕ → ℕ) (n : ℕ) → ((q : ℕ) → f q ≤ 16711425) → sum_by f (range_with_len 0 n) ≤ 16711425 * n
sum_bounded f zero h = omega arith
sum_bounded f (suc n) h = let rest = sum_bounded f n h in let here = h n in let a = sum_more f n in omega arith

pub sums_zero : (f : ℕ → ℕ) (n : ℕ) → ((q : ℕ) → f q ≡ 0) → sum_by f (range_with_len 0 n) ≡ 0
sums_zero f zero h = refl
sums_zero f (suc n) h = let rest = sums_zero f n h in let here = h n in let a = sum_more f n in omega arith
