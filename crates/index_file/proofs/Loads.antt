-- Numbers that are loaded at a place.
use Rattle.shared_lemmas.proofs.Common.{◌≡◌, ℕ, zero, suc, ◌+◌, ◌*◌, ◌<◌, ◌%◌, List, [], ◌∷◌, take, drop, slice_index, refl, arith, number_l}
use Rattle.index_layout.specs.Bytes.{u16_in, u32_in, u64_in}

-- a number is its first byte, and the number of those behind it
first : (xs : List ℕ) (i j n : ℕ) → j ≡ i + 1 → number_l 256 (take (suc n) (drop i xs)) ≡ slice_index xs i + 256 * number_l 256 (take n (drop j xs))
first xs i zero n is = absurd (omega arith)
first [] zero (suc j) zero is = refl
first [] zero (suc j) (suc n) is = refl
first [] (suc i) (suc j) zero is = refl
first [] (suc i) (suc j) (suc n) is = refl
first (x ∷ xs) zero (suc zero) n is = refl
first (x ∷ xs) zero (suc (suc j)) n is = absurd (omega arith)
first (x ∷ xs) (suc i) (suc j) n is = first xs i j n (omega arith)

module _ (bytes : List ℕ) (small : (i : ℕ) → slice_index bytes i < 256) (at : ℕ) where
  start : (n : ℕ) → number_l 256 (take (suc n) (drop at bytes)) ≡ slice_index bytes at + 256 * number_l 256 (take n (drop (at + 1) bytes))
  start n = first bytes at (at + 1) n refl

  next : (k n : ℕ) → number_l 256 (take (suc n) (drop (at + k) bytes)) ≡ slice_index bytes (at + k) + 256 * number_l 256 (take n (drop (at + (k + 1)) bytes))
  next k n = first bytes (at + k) (at + (k + 1)) n (omega arith)

  pub loads_16 : number_l 256 (take 2 (drop at bytes)) % 65536 ≡ u16_in bytes at
  unfolding u16_in
  loads_16 = omega (arith, start 1, next 1 0, small at, small (at + 1))

  pub loads_32 : number_l 256 (take 4 (drop at bytes)) % 4294967296 ≡ u32_in bytes at
  unfolding u32_in
  loads_32 = omega (arith, start 3, next 1 2, next 2 1, next 3 0, small at, small (at + 1), small (at + 2), small (at + 3))

  pub loads_64 : number_l 256 (take 8 (drop at bytes)) % 18446744073709551616 ≡ u64_in bytes at
  unfolding u64_in
  loads_64 =
      omega (
        arith,
        start 7,
        next 1 6,
        next 2 5,
        next 3 4,
        next 4 3,
        next 5 2,
        next 6 1,
        next 7 0,
        small at,
        small (at + 1),
        small (at + 2),
        small (at + 3),
        small (at + 4),
        small (at + 5),
        small (at + 6),
        small (at + 7),
      )
