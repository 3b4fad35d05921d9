-- What the reading of a decimal says of the digits so far.
use Rattle.std.specs.Prelude.{ℕ, ◌+◌, ◌*◌, ◌^◌, ◌&&◌, List, [], ◌∷◌, Option, Some, None, nat_lt, if◌then◌else◌}
use Rattle.std.specs.Char.{digit_value, is_ascii_digit}

-- the number that digits stand for where they follow those of v
abbrev pub value_after : ℕ → List ℕ → Option ℕ
value_after v [] = Some v
value_after v (b ∷ bs) = if is_ascii_digit b && nat_lt (v * 10 + digit_value b) (2 ^ 64) then value_after (v * 10 + digit_value b) bs else None
