-- Numbers from a seed: the linear congruence of the sample `rand` in ISO C, modulo 2^31.
use Rattle.std.specs.Prelude.{ℕ, ◌+◌, ◌*◌, ◌/◌, ◌%◌, ◌^◌}

-- the state behind a state
unfoldable pub next_state : ℕ → ℕ
next_state state = (state * 1103515245 + 12345) % 2 ^ 31

-- the number that is drawn with a state: the lowest bits of such a congruence repeat soon, and are left out
unfoldable pub drawn : ℕ → ℕ
drawn state = state / 256
