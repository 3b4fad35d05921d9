-- Decimal numbers of 64 bits.
use Rattle.std.specs.Prelude.{ℕ, ◌^◌, Bool, ◌&&◌, List, length, Option, Some, None, nat_lt, nat_le, if◌then◌else◌}
use Rattle.std.specs.Char.{is_ascii_digit}
use Rattle.std.specs.List.{list_all}
use Rattle.std.specs.Str.Parse.{digits_value}

-- 1 to 20 ASCII digits that stand for a number below 2^64
abbrev pub is_decimal : List ℕ → Bool
is_decimal bytes = nat_le 1 (length bytes) && nat_le (length bytes) 20 && list_all is_ascii_digit bytes && nat_lt (digits_value 10 bytes) (2 ^ 64)

-- the number that a decimal stands for
abbrev pub decimal_of : List ℕ → Option ℕ
decimal_of bytes = if is_decimal bytes then Some (digits_value 10 bytes) else None
