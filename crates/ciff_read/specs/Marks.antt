-- Numbers that are marked in words, one bit for each.
use Rattle.std.specs.Prelude.{ℕ, ◌/◌, ◌%◌, ◌==◌, Bool, List, slice_index_or}
use Rattle.std.specs.Int.{bit_at}

-- whether a number is marked in words of 64 bits; what lies past them isn't
abbrev pub is_marked : List ℕ → ℕ → Bool
is_marked words n = bit_at (slice_index_or words (n / 64) 0) (n % 64) == 1
