-- Blocks of 128 numbers of one width, packed into four lanes that lie side by side, word by word.
-- The layout is that of Lemire and Boytsov, "Decoding billions of integers per second through
-- vectorization" (2015), with a width for each block.
use Rattle.std.specs.Prelude.{ℕ, zero, suc, ◌+◌, ◌*◌, ◌/◌, ◌%◌, ◌^◌, List, map, slice_index}
use Rattle.std.specs.Int.{bit_at}
use Rattle.std.specs.List.{range_with_len}

-- the number with these n bits, of which bit 0 is the lowest
unfoldable pub number_of_bits : (ℕ → ℕ) → ℕ → ℕ
number_of_bits bit zero = 0
number_of_bits bit (suc n) = bit n * 2 ^ n + number_of_bits bit n

-- the list f 0, f 1, .. of n elements
unfoldable pub list_of : (ℕ → ℕ) → ℕ → List ℕ
list_of f n = map f (range_with_len 0 n)

-- the little-endian word of 32 bits whose first byte is at this place
abbrev pub word_at : List ℕ → ℕ → ℕ
word_at bytes at =
    slice_index bytes at + 2 ^ 8 * slice_index bytes (at + 1) + 2 ^ 16 * slice_index bytes (at + 2) + 2 ^ 24 * slice_index bytes (at + 3)

-- word j of a lane; lanes are numbered from 0 to 3
abbrev pub lane_word : List ℕ → ℕ → ℕ → ℕ
lane_word bytes lane j = word_at bytes (16 * j + 4 * lane)

-- bit x of a lane
abbrev pub lane_bit : List ℕ → ℕ → ℕ → ℕ
lane_bit bytes lane x = bit_at (lane_word bytes lane (x / 32)) (x % 32)

-- the number that stands in `width` bits of a lane, from bit `first` on
abbrev pub lane_number : List ℕ → ℕ → ℕ → ℕ → ℕ
lane_number bytes width lane first = number_of_bits (λ v. lane_bit bytes lane (first + v)) width

-- number i of a block, which is number i / 4 of lane i % 4
abbrev pub block_value : List ℕ → ℕ → ℕ → ℕ
block_value bytes width i = lane_number bytes width (i % 4) (i / 4 * width)

-- the 128 numbers of a block
abbrev pub block_values : List ℕ → ℕ → List ℕ
block_values bytes width = list_of (block_value bytes width) 128

-- bit x of a lane that the values are packed into: bit x % width of the lane's value x / width
abbrev pub packed_bit : List ℕ → ℕ → ℕ → ℕ → ℕ
packed_bit values width lane x = bit_at (slice_index values (4 * (x / width) + lane)) (x % width)

-- byte k of the packed block: byte k % 4 of word k / 16 of lane k % 16 / 4
abbrev pub block_byte : List ℕ → ℕ → ℕ → ℕ
block_byte values width k = number_of_bits (λ v. packed_bit values width (k % 16 / 4) (32 * (k / 16) + 8 * (k % 4) + v)) 8

-- the packed block of 128 values
abbrev pub block_bytes : List ℕ → ℕ → List ℕ
block_bytes values width = list_of (block_byte values width) (16 * width)
