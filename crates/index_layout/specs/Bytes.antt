-- Numbers of 16, 32 and 64 bits in bytes, the lowest byte first.
use Rattle.std.specs.Prelude.{ℕ, ◌+◌, List, [], ◌∷◌, slice_index}
use Rattle.std.specs.Int.{w16, w32, w64, to_le_bytes, from_le_bytes}

-- the bytes of a number
abbrev pub u16_bytes : ℕ → List ℕ
u16_bytes n = to_le_bytes w16 n

abbrev pub u32_bytes : ℕ → List ℕ
u32_bytes n = to_le_bytes w32 n

abbrev pub u64_bytes : ℕ → List ℕ
u64_bytes n = to_le_bytes w64 n

-- the number at a place
unfoldable pub u16_in : List ℕ → ℕ → ℕ
u16_in bytes at = from_le_bytes w16 (slice_index bytes at ∷ slice_index bytes (at + 1) ∷ [])

unfoldable pub u32_in : List ℕ → ℕ → ℕ
u32_in bytes at = from_le_bytes w32
    (slice_index bytes at ∷ slice_index bytes (at + 1) ∷ slice_index bytes (at + 2) ∷ slice_index bytes (at + 3) ∷ [])

unfoldable pub u64_in : List ℕ → ℕ → ℕ
u64_in bytes at = from_le_bytes w64
    (slice_index bytes at ∷ slice_index bytes (at + 1) ∷ slice_index bytes (at + 2) ∷ slice_index bytes (at + 3)
    ∷ slice_index bytes (at + 4) ∷ slice_index bytes (at + 5) ∷ slice_index bytes (at + 6) ∷ slice_index bytes (at + 7) ∷ [])
