-- Numbers are read as they are written.
use Rattle.shared_lemmas.proofs.Common.{◌≡◌, ℕ, suc, zero, ◌+◌, ◌<◌, ◌≤◌, ◌^◌, List, [], ◌∷◌, ◌++◌, length, drop, map, All, ap, sym, ◌∙◌, refl, arith, slice_index, get_or-drop, drop_more, All-head, All-tail, le_bytes_2, le_bytes_4, le_bytes_8, from_le_bytes-to_le_bytes_2}
use Rattle.shared_lemmas.proofs.Common.{from_le_bytes-to_le_bytes_4, from_le_bytes-to_le_bytes_8}
use Rattle.index_layout.specs.Bytes.{u16_in, u32_in, u64_in, u16_bytes, u32_bytes, u64_bytes}

-- each byte is below 256
abbrev pub Fit : List ℕ → Type 0
Fit bytes = (i : ℕ) → slice_index bytes i < 256

pub byte_at : (bytes : List ℕ) → All (λ byte. byte < 256) bytes → Fit bytes
byte_at [] fits i = omega arith
byte_at (b ∷ bytes) fits zero = All-head (λ byte. byte < 256) b bytes fits
byte_at (b ∷ bytes) fits (suc i) = byte_at bytes (All-tail (λ byte. byte < 256) b bytes fits) i

here : (bytes : List ℕ) (at : ℕ) → slice_index (drop at bytes) 0 ≡ slice_index bytes at
here bytes at = get_or-drop at bytes 0 0 ∙ ap (slice_index bytes) (omega arith)

u16_here : (bytes : List ℕ) (at : ℕ) → u16_in bytes at ≡ u16_in (drop at bytes) 0
unfolding u16_in
u16_here bytes at = rw (here bytes at, get_or-drop at bytes 1 0) refl

u32_here : (bytes : List ℕ) (at : ℕ) → u32_in bytes at ≡ u32_in (drop at bytes) 0
unfolding u32_in
u32_here bytes at = rw (here bytes at, get_or-drop at bytes 1 0, get_or-drop at bytes 2 0, get_or-drop at bytes 3 0) refl

u64_here : (bytes : List ℕ) (at : ℕ) → u64_in bytes at ≡ u64_in (drop at bytes) 0
unfolding u64_in
u64_here bytes at = rw (here bytes at, get_or-drop at bytes 1 0, get_or-drop at bytes 2 0, get_or-drop at bytes 3 0, get_or-drop at bytes 4 0, get_or-drop at bytes 5 0, get_or-drop at bytes 6 0, get_or-drop at bytes 7 0) refl

pub u16_found : (bytes : List ℕ) (at n : ℕ) (rest : List ℕ) → n < 2 ^ 16 → drop at bytes ≡ u16_bytes n ++ rest → u16_in bytes at ≡ n
unfolding u16_in
u16_found bytes at n rest small is = u16_here bytes at ∙ ap (λ b. u16_in b 0) is ∙ from_le_bytes-to_le_bytes_2 n small

pub u32_found : (bytes : List ℕ) (at n : ℕ) (rest : List ℕ) → n < 2 ^ 32 → drop at bytes ≡ u32_bytes n ++ rest → u32_in bytes at ≡ n
unfolding u32_in
u32_found bytes at n rest small is = u32_here bytes at ∙ ap (λ b. u32_in b 0) is ∙ from_le_bytes-to_le_bytes_4 n small

pub u64_found : (bytes : List ℕ) (at n : ℕ) (rest : List ℕ) → n < 2 ^ 64 → drop at bytes ≡ u64_bytes n ++ rest → u64_in bytes at ≡ n
unfolding u64_in
u64_found bytes at n rest small is = u64_here bytes at ∙ ap (λ b. u64_in b 0) is ∙ from_le_bytes-to_le_bytes_8 n small

fit_at : (bytes : List ℕ) → Fit bytes → (places : List ℕ) → Fit (map (slice_index bytes) places)
fit_at bytes fits [] i = omega arith
fit_at bytes fits (at ∷ places) zero = fits at
fit_at bytes fits (at ∷ places) (suc i) = fit_at bytes fits places i

pub cell : (bytes : List ℕ) (i j : ℕ) → i + 1 ≡ j → i < length bytes → drop i bytes ≡ slice_index bytes i ∷ drop j bytes
cell bytes i j next inside = drop_more bytes i 0 inside ∙ ap (λ n. slice_index bytes i ∷ drop n bytes) next

two : (bytes : List ℕ) (at next : ℕ) → at + 2 ≡ next → next ≤ length bytes → drop at bytes ≡ slice_index bytes at ∷ slice_index bytes (at + 1) ∷ drop next bytes
two bytes at next is inside = cell bytes at (at + 1) refl (omega (arith, is, inside)) ∙ ap (λ xs. slice_index bytes at ∷ xs) (cell bytes (at + 1) next (omega (arith, is)) (omega (arith, is, inside)))

four : (bytes : List ℕ) (at next : ℕ) → at + 4 ≡ next → next ≤ length bytes → drop at bytes ≡ slice_index bytes at ∷ slice_index bytes (at + 1) ∷ slice_index bytes (at + 2) ∷ slice_index bytes (at + 3) ∷ drop next bytes
four bytes at next is inside = two bytes at (at + 2) refl (omega (arith, is, inside)) ∙ ap (λ xs. slice_index bytes at ∷ slice_index bytes (at + 1) ∷ xs)
    (cell bytes (at + 2) (at + 3) (omega arith) (omega (arith, is, inside)) ∙ ap (λ xs. slice_index bytes (at + 2) ∷ xs) (cell bytes (at + 3) next (omega (arith, is)) (omega (arith, is, inside))))

pub u16_only : (bytes : List ℕ) (at : ℕ) → Fit bytes → at + 2 ≤ length bytes → drop at bytes ≡ u16_bytes (u16_in bytes at) ++ drop (at + 2) bytes
unfolding u16_in
u16_only bytes at fits inside =
    two bytes at (at + 2) refl inside ∙ ap (λ xs. xs ++ drop (at + 2) bytes) (sym (le_bytes_2 (slice_index bytes at ∷ slice_index bytes (at + 1) ∷ []) (u16_in bytes at) refl (fit_at bytes fits (at ∷ (at + 1) ∷ [])) refl))

pub u32_only : (bytes : List ℕ) (at : ℕ) → Fit bytes → at + 4 ≤ length bytes → drop at bytes ≡ u32_bytes (u32_in bytes at) ++ drop (at + 4) bytes
unfolding u32_in
u32_only bytes at fits inside =
    four bytes at (at + 4) refl inside ∙ ap (λ xs. xs ++ drop (at + 4) bytes) (sym (le_bytes_4 (slice_index bytes at ∷ slice_index bytes (at + 1) ∷ slice_index bytes (at + 2) ∷ slice_index bytes (at + 3) ∷ []) (u32_in bytes at) refl
    (fit_at bytes fits (at ∷ (at + 1) ∷ (at + 2) ∷ (at + 3) ∷ [])) refl))

-- eight bytes from a place on
abbrev eight_at : List ℕ → ℕ → List ℕ
eight_at bytes at = slice_index bytes at ∷ slice_index bytes (at + 1) ∷ slice_index bytes (at + 2) ∷ slice_index bytes (at + 3)
    ∷ slice_index bytes (at + 4) ∷ slice_index bytes (at + 5) ∷ slice_index bytes (at + 6) ∷ slice_index bytes (at + 7) ∷ []

eight : (bytes : List ℕ) (at : ℕ) → at + 8 ≤ length bytes → drop at bytes ≡ eight_at bytes at ++ drop (at + 8) bytes
eight bytes at inside = four bytes at (at + 4) refl (omega (arith, inside)) ∙ ap (λ xs. slice_index bytes at ∷ slice_index bytes (at + 1) ∷ slice_index bytes (at + 2) ∷ slice_index bytes (at + 3) ∷ xs)
    (two bytes (at + 4) (at + 6) (omega arith) (omega (arith, inside)) ∙ last)
  where
    last : slice_index bytes (at + 4) ∷ slice_index bytes (at + 4 + 1) ∷ drop (at + 6) bytes ≡ slice_index bytes (at + 4) ∷ slice_index bytes (at + 5) ∷ slice_index bytes (at + 6) ∷ slice_index bytes (at + 7) ∷ drop (at + 8) bytes
    last = ap (λ n. slice_index bytes (at + 4) ∷ slice_index bytes n ∷ drop (at + 6) bytes) (omega arith) ∙ ap (λ xs. slice_index bytes (at + 4) ∷ slice_index bytes (at + 5) ∷ xs)
        (cell bytes (at + 6) (at + 7) (omega arith) (omega (arith, inside)) ∙ ap (λ xs. slice_index bytes (at + 6) ∷ xs) (cell bytes (at + 7) (at + 8) (omega arith) (omega (arith, inside))))

pub u64_only : (bytes : List ℕ) (at : ℕ) → Fit bytes → at + 8 ≤ length bytes → drop at bytes ≡ u64_bytes (u64_in bytes at) ++ drop (at + 8) bytes
unfolding u64_in
u64_only bytes at fits inside =
    eight bytes at inside ∙ ap (λ xs. xs ++ drop (at + 8) bytes) (sym (le_bytes_8 (eight_at bytes at) (u64_in bytes at) refl
    (fit_at bytes fits (at ∷ (at + 1) ∷ (at + 2) ∷ (at + 3) ∷ (at + 4) ∷ (at + 5) ∷ (at + 6) ∷ (at + 7) ∷ [])) refl))
