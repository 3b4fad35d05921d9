-- A shortest varint that is spelled, or counted, group by group.
use Rattle.shared_lemmas.proofs.Common.{◌≡◌, ℕ, zero, suc, ◌+◌, ◌*◌, ◌^◌, ◌%◌, ◌/◌, ◌<◌, ◌≤◌, Bool, true, false, List, [], ◌∷◌, ◌++◌, length, refl, sym, ap, ◌∙◌, append_assoc, arith, nat_le, pow-suc, leb-false, leb-true}
use Rattle.std.proofs.Common.{length-append}
use mir.Val.{bool_byte}
use Rattle.ciff_write.proofs.Below.{short_varint_within, one_group_written, last_group, more_groups}
use Rattle.jass_base.specs.Wire.{short_varint}

-- a number below the greatest that k groups behind the first may hold
abbrev pub Fits : ℕ → ℕ → Type 0
Fits k n = n < 2 * 128 ^ k

pub fits_less : (k n : ℕ) → Fits (suc k) n → Fits k (n / 128)
fits_less k n fits = let p : 128 ^ suc k ≡ 128 ^ k * 128 = pow-suc 128 k in grind arith

-- the groups in `now` behind `start`, and those of what is left, are the varint of the value
abbrev pub Spelled : List ℕ → List ℕ → ℕ → ℕ → Type 0
Spelled start now value left = (k : ℕ) × Fits k left × (length now + k ≡ length start + 9) × (now ++ short_varint_within k left ≡ start ++ short_varint value)

pub spelled_none : (start : List ℕ) (value : ℕ) → value < 2 ^ 64 → Spelled start start value value
unfolding short_varint
spelled_none start value fits = (9, fits, refl, refl)

pub spelled_more : (start now : List ℕ) (value left : ℕ) → 128 ≤ left → Spelled start now value left → Spelled start (now ++ (left % 128 + 128) ∷ []) value (left / 128)
spelled_more start now value left large (zero, fits, size, is) = absurd (omega (arith, fits))
spelled_more start now value left large (suc k, fits, size, is) = (
  k,
  fits_less k left fits,
  omega (arith, size, length-append now ((left % 128 + 128) ∷ [])),
  append_assoc now ((left % 128 + 128) ∷ []) (short_varint_within k (left / 128)) ∙ ap (λ (s : List ℕ). now ++ s) (sym (more_groups k left large)) ∙ is,
)

pub spelled_all : (start now : List ℕ) (value left : ℕ) → left < 128 → Spelled start now value left → now ++ left ∷ [] ≡ start ++ short_varint value
spelled_all start now value left small (k, fits, size, is) = ap (λ (s : List ℕ). now ++ s) (sym (last_group k left small)) ∙ is

-- so many groups, and those of what is left, are as many as the varint of the value has
abbrev pub Counted : ℕ → ℕ → ℕ → Type 0
Counted len value left = (k : ℕ) × Fits k left × (len + k ≡ 10) × (len + length (short_varint_within k left) ≡ 1 + length (short_varint value))

pub counted_none : (value : ℕ) → value < 2 ^ 64 → Counted 1 value value
unfolding short_varint
counted_none value fits = (9, fits, refl, refl)

pub counted_more : (len value left : ℕ) → 128 ≤ left → Counted len value left → Counted (len + 1) value (left / 128)
counted_more len value left large (zero, fits, size, is) = absurd (omega (arith, fits))
counted_more len value left large (suc k, fits, size, is) =
    let more : length (short_varint_within (suc k) left) ≡ suc (length (short_varint_within k (left / 128))) = ap length (more_groups k left large) in
    (k, fits_less k left fits, omega (arith, size), omega (arith, is, more))

pub counted_all : (len value left : ℕ) → left < 128 → Counted len value left → len ≡ length (short_varint value)
counted_all len value left small (k, fits, size, is) =
    let one : length (short_varint_within k left) ≡ 1 = ap length (last_group k left small) in
    omega (arith, is, one)

pub two_groups : (n : ℕ) → 128 ≤ n → n < 16384 → short_varint n ≡ (n % 128 + 128) ∷ n / 128 ∷ []
unfolding short_varint
two_groups n large small = more_groups 8 n large ∙ ap (λ (s : List ℕ). (n % 128 + 128) ∷ s) (last_group 8 (n / 128) (omega (arith, small)))

pub three_groups : (n : ℕ) → 16384 ≤ n → n < 2097152 → short_varint n ≡ (n % 128 + 128) ∷ (n / 128 % 128 + 128) ∷ n / 16384 ∷ []
unfolding short_varint
three_groups n large small =
    let rest : n / 128 / 128 ≡ n / 16384 = omega arith in
    more_groups 8 n (omega (arith, large)) ∙ ap (λ (s : List ℕ). (n % 128 + 128) ∷ s) (more_groups 7 (n / 128) (omega (arith, large)) ∙ ap (λ (s : List ℕ). (n / 128 % 128 + 128) ∷ s) (last_group 7 (n / 128 / 128) (omega (arith, small)) ∙ ap (λ (x : ℕ). x ∷ []) rest))

-- one group more for each bound that a number below 2^21 reaches
pub few_groups : (n : ℕ) → n < 2097152 → length (short_varint n) ≡ 1 + (bool_byte (nat_le 128 n) + bool_byte (nat_le 16384 n))
few_groups n small = go (nat_le 128 n) (nat_le 16384 n) refl refl
  where
    go : (a b : Bool) → nat_le 128 n ≡ a → nat_le 16384 n ≡ b → length (short_varint n) ≡ 1 + (bool_byte a + bool_byte b)
    go false false p q = ap length (one_group_written n (leb-false 128 n p))
    go true false p q = ap length (two_groups n (leb-true 128 n p) (leb-false 16384 n q))
    go true true p q = ap length (three_groups n (leb-true 16384 n q) small)
    go false true p q = absurd (omega (arith, leb-false 128 n p, leb-true 16384 n q))
