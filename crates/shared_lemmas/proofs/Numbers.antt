-- Numbers, their tests and their powers.
use Rattle.shared_lemmas.proofs.Common.{◌≡◌, ◌==◌, ℕ, zero, suc, ◌+◌, ◌*◌, ◌^◌, ◌<◌, ◌≤◌, max, true, false, arith, nat_tests, pow-suc}

pub number_itself : (n : ℕ) → (n == n) ≡ true
number_itself n = grind (arith, nat_tests)

pub numbers_apart : (m n : ℕ) → n < m → (m == n) ≡ false
numbers_apart m n less = grind (arith, nat_tests)

pub max_joins : (a b c : ℕ) → max (max a b) c ≡ max a (max b c)
max_joins a b c = omega arith

-- a digit in front of a number of groups of seven bits
pub power_some : (k : ℕ) → 1 ≤ 128 ^ k
power_some zero = omega arith
power_some (suc k) = omega (arith, pow-suc 128 k, power_some k)

pub value_small : (value b scale : ℕ) → value < scale → b < 128 → value + b * scale < scale * 128
value_small value b scale below small = grind arith
