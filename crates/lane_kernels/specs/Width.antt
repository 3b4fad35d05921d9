-- How many bits a block gives each of its numbers.
use Rattle.std.specs.Prelude.{ℕ, ◌-◌, max, List, [], ◌∷◌}
use Rattle.std.specs.Int.{leading_zeros, w32}

-- how many bits a number below 2 ^ 32 has, of which the highest is 1: none for 0
abbrev pub bit_width : ℕ → ℕ
bit_width value = 32 - leading_zeros w32 value

-- the least width that holds each of the values
abbrev pub least_width : List ℕ → ℕ
least_width [] = 0
least_width (value ∷ values) = max (bit_width value) (least_width values)
