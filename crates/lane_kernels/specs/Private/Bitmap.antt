-- The set bits of one word.
use Rattle.std.specs.Prelude.{ℕ, List}
use Rattle.std.specs.Int.{bit_at}
use Rattle.lane_kernels.specs.Bitmap.{numbers_of_bits}

-- the numbers base + i of the set bits i of one word of 64 bits, rising
abbrev pub word_bits : ℕ → ℕ → List ℕ
word_bits base word = numbers_of_bits (bit_at word) base 64
