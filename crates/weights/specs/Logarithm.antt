-- The binary logarithm in whole numbers: 1,024 steps from each power of two to the next, on a straight line between them.
use Rattle.std.specs.Prelude.{ℕ, zero, suc, ◌+◌, ◌-◌, ◌*◌, ◌/◌, ◌^◌, nat_le, if◌then◌else◌}

-- the greatest exponent up to a limit whose power of two is at most x
abbrev pub exponent_up_to : ℕ → ℕ → ℕ
exponent_up_to zero x = 0
exponent_up_to (suc e) x = if nat_le (2 ^ suc e) x then suc e else exponent_up_to e x

-- the e with 2 ^ e ≤ x < 2 ^ (e + 1), where x is at least 1 and has 64 bits
unfoldable pub exponent_of : ℕ → ℕ
exponent_of x = exponent_up_to 63 x

-- 1024 * log2(x) in whole numbers: exact at a power of two, rounded down on the straight line to the next
abbrev pub lg : ℕ → ℕ
lg x = let e = exponent_of x in 1024 * e + (x - 2 ^ e) * 1024 / 2 ^ e
