-- Groups of 7 bits fit 64 bits.
use Rattle.shared_lemmas.proofs.Common.{ℕ, ◌≡◌, ◌*◌, ◌^◌, ◌<◌, ◌≤◌, arith, ◌+◌, pow-le-pow_right}

-- the scale of a group below the tenth
pub scale_small : (n scale : ℕ) → n < 9 → scale ≡ 128 ^ n → scale ≤ 128 ^ 8
scale_small n scale few is = let below : n ≤ 8 = omega arith in rw is (pow-le-pow_right {n = 128} (omega arith) {i = n} {j = 8} below)

-- a group at its scale
pub group_small : (b scale : ℕ) → b < 128 → scale ≤ 128 ^ 8 → b * scale ≤ 127 * 128 ^ 8
group_small b scale small few = grind arith

-- the value below it fits beside it
pub group_fits : (n b scale : ℕ) → n < 9 → scale ≡ 128 ^ n → b < 128 → b * scale + scale ≤ 128 ^ 9
group_fits n b scale few is small = omega (arith, group_small b scale small (scale_small n scale few is), scale_small n scale few is)
