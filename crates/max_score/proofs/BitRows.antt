-- A bitmap in rows of sixteen bytes: the bits of a row are those of 128 documents.
use Rattle.shared_lemmas.proofs.Common.{◌≡◌, ℕ, ◌+◌, ◌-◌, ◌*◌, ◌<◌, ◌≤◌, min, List, [], ◌++◌, length, take, drop, refl, sym, ap, ◌∙◌, inl, inr, arith, slice_range, cases_lt, length-drop, length-take-le, drop-drop, drop_all, take-append-drop}
use Rattle.lane_kernels.specs.Bitmap.{numbers_of_bits, set_bits}
use Rattle.lane_kernels.proofs.SetBits.{set_bits-append}

none_set : (base : ℕ) → set_bits base [] ≡ []
unfolding numbers_of_bits
none_set base = refl

-- the documents from a row on; the bits begin with those of the row `first`
abbrev pub from_row : ℕ → List ℕ → ℕ → List ℕ
from_row first bits row = set_bits (128 * (first + row)) (drop (16 * row) bits)

-- none is left behind the last row
pub none_behind : (first : ℕ) (bits : List ℕ) (row : ℕ) → length bits ≤ 16 * row → from_row first bits row ≡ []
none_behind first bits row past = ap (set_bits (128 * (first + row))) (drop_all (16 * row) bits past) ∙ none_set (128 * (first + row))

-- all are left in front of the first row
pub all_in_front : (first : ℕ) (bits : List ℕ) → from_row first bits 0 ≡ set_bits (128 * first) bits
all_in_front first bits = let here : 128 * (first + 0) ≡ 128 * first = omega arith in ap (λ n. set_bits n bits) here

-- those of one row, and those behind it
pub row_parted : (first : ℕ) (bits : List ℕ) (row end : ℕ) → 16 * row < length bits → end ≡ min (16 * row + 16) (length bits)
    → from_row first bits row ≡ set_bits (128 * (first + row)) (slice_range bits (16 * row) end) ++ from_row first bits (row + 1)
row_parted first bits row end inside is =
    let base : ℕ = 128 * (first + row) in
    let rest : List ℕ = drop (16 * row) bits in
    let size : ℕ = end - 16 * row in
    let left : length rest ≡ length bits - 16 * row = length-drop (16 * row) bits in
    let here : List ℕ = set_bits base (take size rest) in
    let split : from_row first bits row ≡ here ++ set_bits (base + 8 * length (take size rest)) (drop size rest) =
    ap (set_bits base) (sym (take-append-drop size rest)) ∙ set_bits-append base (take size rest) (drop size rest) in
    let long : length (take size rest) ≡ size = length-take-le size rest (omega (arith, left, is)) in
    split ∙ ap (λ (l : List ℕ). here ++ l) (elim (cases_lt (length bits) (16 * row + 16)) [
      | inl short ↦
          ap (set_bits (base + 8 * length (take size rest))) (drop_all size rest (omega (arith, left, is, short)))
          ∙ none_set (base + 8 * length (take size rest)) ∙ sym (none_behind first bits (row + 1) (omega (arith, short)))
      | inr full ↦
          let next : base + 8 * length (take size rest) ≡ 128 * (first + (row + 1)) = omega (arith, long, is, full) in
          let term_place : 16 * row + size ≡ 16 * (row + 1) = omega (arith, is, full) in
          ap (λ n. set_bits n (drop size rest)) next ∙ ap (set_bits (128 * (first + (row + 1)))) (drop-drop size (16 * row) bits ∙ ap (λ n. drop n bits) term_place)
    ])
