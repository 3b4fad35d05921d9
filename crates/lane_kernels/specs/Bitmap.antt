-- Bitmaps: bit i of a list of bytes stands for the number i.
use Rattle.std.specs.Prelude.{ℕ, ◌+◌, ◌*◌, ◌/◌, ◌%◌, ◌==◌, List, length, map, filter, slice_index}
use Rattle.std.specs.Int.{bit_at}
use Rattle.std.specs.List.{range_with_len}

-- bit i of the bytes: the lowest bit of the first byte is bit 0
abbrev pub bit_of : List ℕ → ℕ → ℕ
bit_of bytes i = bit_at (slice_index bytes (i / 8)) (i % 8)

-- the numbers base + i of those i below n whose bit is 1, rising
unfoldable pub numbers_of_bits : (ℕ → ℕ) → ℕ → ℕ → List ℕ
numbers_of_bits bit base n = map (λ i. base + i) (filter (λ i. bit i == 1) (range_with_len 0 n))

-- the numbers base + i of the set bits i of the bytes, rising
abbrev pub set_bits : ℕ → List ℕ → List ℕ
set_bits base bytes = numbers_of_bits (bit_of bytes) base (8 * length bytes)
