-- Slots that stand for the bits of a bitmap, to which one weight is added where the bit is set.
use Rattle.std.specs.Prelude.{ℕ, ◌+◌, ◌*◌, ◌==◌, ◌&&◌, Bool, List, length, map, nat_le, slice_index}
use Rattle.std.specs.List.{list_any, range_with_len}
use Rattle.lane_kernels.specs.Bitmap.{bit_of}

-- the slots after w was added where the bit is set
abbrev pub added_where : ℕ → List ℕ → List ℕ → List ℕ
added_where w bits slots = map (λ i. slice_index slots i + w * bit_of bits i) (range_with_len 0 (length slots))

-- whether a number is at least `from` and at most `from + w`
abbrev pub is_near : ℕ → ℕ → ℕ → Bool
is_near w from slot = nat_le from slot && nat_le slot (from + w)

-- whether a slot whose bit is set is at least `from` and at most `from + w`
abbrev pub near_where : ℕ → ℕ → List ℕ → List ℕ → Bool
near_where w from bits slots = list_any (λ i. (bit_of bits i == 1) && is_near w from (slice_index slots i)) (range_with_len 0 (length slots))
