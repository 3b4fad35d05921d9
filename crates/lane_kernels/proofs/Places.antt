-- The first place that passes a test.
use Rattle.shared_lemmas.proofs.Common.{◌≡◌, ◌≢◌, ◌==◌, ◌+◌, ℕ, ◌<◌, ◌≤◌, Bool, true, false, not, cond, suc, ◌*◌, [], ◌∷◌, List, length, map, get_or, All, Option, Some, None, IsNone, ◌↔◌, eqb-true, eq-eqb, refl, zero, ◌^◌, IsTrue, nat_lt, subst, sym, ap, ◌∙◌, arith, inl, inr, prefix_len, pow-suc}
use Rattle.shared_lemmas.proofs.Common.{cases_lt, ltb-true, lt-ltb, nat_tests, prefix_len_passes, position-Some, length-chunk, trailing_mask_l, run_in_chunk_fails, run_in_chunk_stops, none_from_empty_mask}
use Rattle.std.specs.List.{position}
use Rattle.shared_lemmas.proofs.Places.{position_at}
use lib.Count.{count_trailing_zeros}
use lib.Lanes.{chunk, mask_l}

not_zero : (x : ℕ) → not (x == 0) ≡ true → x ≢ 0
not_zero x e is = grind (arith, nat_tests)

-- ---- sixteen lanes, of which a mask shows those that are zero
abbrev is_zero : ℕ → Bool
is_zero slot = slot == 0

-- a mask that is not empty shows one
some_here : (b : Bool) (mask passed long : ℕ) → (0 < mask → passed < long) → 0 < cond b 1 0 + 2 * mask → cond (not b) (1 + passed) 0 < suc long
some_here true mask passed long later h = omega arith
some_here false mask passed long later h = omega (arith, later (omega arith))

some_passes : (xs : List ℕ) → 0 < mask_l (map is_zero xs) → prefix_len (λ x. not (is_zero x)) xs < length xs
some_passes [] h = absurd (omega arith)
some_passes (x ∷ xs) h = some_here (is_zero x) (mask_l (map is_zero xs)) (prefix_len (λ y. not (is_zero y)) xs) (length xs) (some_passes xs) h

module _ (xs : List ℕ) (at : ℕ) (room : at + 16 ≤ length xs) (before : (k : ℕ) → k < at → is_zero (get_or xs k 0) ≡ false)
    (mask : ℕ) (is : mask ≡ mask_l (map is_zero (chunk at 16 xs))) where
  pub first_in_chunk : mask ≢ 0 → Some (at + count_trailing_zeros 64 mask) ≡ position is_zero xs
  first_in_chunk some =
      let n : ℕ = count_trailing_zeros 64 mask in
      let counted : n ≡ prefix_len (λ x. not (is_zero x)) (chunk at 16 xs) =
      ap (count_trailing_zeros 64) is ∙ trailing_mask_l is_zero 64 (chunk at 16 xs) (omega (arith, length-chunk at 16 xs room)) (omega arith) in
      let within : n < 16 = omega (arith, counted, length-chunk at 16 xs room, some_passes (chunk at 16 xs) (omega (arith, is))) in
      sym (position_at is_zero xs (at + n) 0 (omega arith)
      (λ k h. elim (cases_lt k at) [ inl l ↦ before k l | inr g ↦ run_in_chunk_fails is_zero xs at 16 n 0 room counted k g h ])
      (run_in_chunk_stops is_zero xs at 16 n 0 room counted within))

  pub none_in_chunk : mask ≡ 0 → (k : ℕ) → k < at + 16 → is_zero (get_or xs k 0) ≡ false
  none_in_chunk none k h = elim (cases_lt k at) [ inl l ↦ before k l | inr g ↦ none_from_empty_mask is_zero xs at 16 0 room (sym is ∙ none) k (omega arith) h ]

-- there is no first zero exactly where none is zero
pub none_is_zero : (xs : List ℕ) (r : Option ℕ) → r ≡ position is_zero xs → IsNone r ↔ All (λ x. x ≢ 0) xs
none_is_zero xs None e =
    let n : ℕ = prefix_len (λ x. not (is_zero x)) xs in (
      λ _ k d h. elim (cases_lt n (length xs)) [
        | inl l ↦ (let found : position is_zero xs ≡ Some n = grind (arith, nat_tests) in absurd (cc))
        | inr g ↦ not_zero (get_or xs k d) (prefix_len_passes (λ x. not (is_zero x)) xs k d (omega arith))
      ],
      λ _. refl,
    )
none_is_zero xs (Some i) e =
    let found = position-Some is_zero xs i 0 (sym e) in
    (λ none. absurd (cc), λ all. absurd (all i 0 found.0 (eqb-true (get_or xs i 0) 0 found.1)))

-- ---- a mask in which every lane shows
full_here : (b : Bool) (mask n : ℕ) → cond b 1 0 + 2 * mask + 1 ≡ 2 ^ suc n → (b ≡ true) × (mask + 1 ≡ 2 ^ n)
full_here true mask n e = (refl, omega (arith, pow-suc 2 n))
full_here false mask n e = absurd (omega (arith, pow-suc 2 n))

all_from_mask : (p : ℕ → Bool) (xs : List ℕ) → mask_l (map p xs) + 1 ≡ 2 ^ length xs → (k d : ℕ) → k < length xs → p (get_or xs k d) ≡ true
all_from_mask p [] e k d h = absurd (omega arith)
all_from_mask p (x ∷ xs) e zero d h = (full_here (p x) (mask_l (map p xs)) (length xs) e).0
all_from_mask p (x ∷ xs) e (suc k) d h = all_from_mask p xs (full_here (p x) (mask_l (map p xs)) (length xs) e).1 k d (omega arith)

mask_from_all : (p : ℕ → Bool) (xs : List ℕ) → ((k d : ℕ) → k < length xs → p (get_or xs k d) ≡ true) → mask_l (map p xs) + 1 ≡ 2 ^ length xs
mask_from_all p [] all = refl
mask_from_all p (x ∷ xs) all =
    ap (λ b. cond b 1 0 + 2 * mask_l (map p xs) + 1) (all 0 0 (omega arith)) ∙ omega (arith, mask_from_all p xs (λ k d h. all (suc k) d (omega arith)), pow-suc 2 (length xs))

pub all_small : (bytes lanes : List ℕ) (mask : ℕ) → lanes ≡ bytes → length lanes ≡ 16 → mask ≡ mask_l (map (λ x. nat_lt x 128) lanes) → IsTrue (mask == 65535) ↔ All (λ x. x < 128) bytes
all_small bytes lanes mask same long is =
    let full : 2 ^ length lanes ≡ 65536 = ap (λ n. 2 ^ n) long in (
      λ t k d h.
          let reads : (j d : ℕ) → j < length lanes → nat_lt (get_or lanes j d) 128 ≡ true = all_from_mask (λ x. nat_lt x 128) lanes (omega (arith, eqb-true mask 65535 t)) in
          subst (λ (xs : List ℕ). get_or xs k d < 128) same (ltb-true (get_or lanes k d) 128 (reads k d (omega (arith, ap length same)))),
      λ all. eq-eqb mask 65535 (omega (
        arith,
        mask_from_all (λ x. nat_lt x 128) lanes (λ k d h.
            lt-ltb (get_or lanes k d) 128 (subst (λ (xs : List ℕ). get_or xs k d < 128) (sym same) (all k d (omega (arith, ap length same))))),
      )),
    )
