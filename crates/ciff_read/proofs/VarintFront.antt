-- A varint is read from the first ten bytes.
use Rattle.shared_lemmas.proofs.Common.{◌≡◌, ℕ, zero, suc, ◌+◌, ◌-◌, ◌*◌, ◌%◌, ◌≤◌, Bool, true, false, cond, List, [], ◌∷◌, length, take, Result, Ok, Err, refl, ap, ◌∙◌, arith, nat_lt}
use Rattle.ciff_read.proofs.Below.{WireWhy, LongVarint, ◌>>=◌, varint_within}
use Rattle.wire_fields.specs.Reading.{varint_at}

-- two readings that end alike: with values that R ties, or with the same refusal
abbrev pub Alike : {E A B : Type 0} → (A → B → Type 0) → Result A E → Result B E → Type 0
Alike R (Ok x) (Ok y) = R x y
Alike R (Ok x) (Err e) = ⊥
Alike R (Err e) (Ok y) = ⊥
Alike R (Err e) (Err f) = e ≡ f

-- a number and the bytes behind it, once of all bytes and once of the first so many, of which it took a few
pub record ReadAlike (k size r : ℕ) (whole front : ℕ × List ℕ) : Type 0 where
  pub number : front.0 ≡ whole.0
  pub used : ℕ
  pub few : used ≤ k
  pub behind : length whole.1 + used ≡ size
  pub rest : front.1 ≡ take (r - used) whole.1

later : (b k size r : ℕ) (x y : Result (ℕ × List ℕ) WireWhy) → Alike (ReadAlike k size r) x y
    → Alike (ReadAlike (suc k) (suc size) (suc r)) (x >>= λ z. Ok (b + 128 * z.0, z.1)) (y >>= λ z. Ok (b + 128 * z.0, z.1))
later b k size r (Ok x) (Ok y) is = record {
  number = ap (λ n. b + 128 * n) is.number;
  used = suc is.used;
  few = omega (arith, is.few);
  behind = omega (arith, is.behind);
  rest = is.rest ∙ ap (λ n. take n x.1) (omega arith);
}
later b k size r (Ok x) (Err e) is = absurd is
later b k size r (Err e) (Ok y) is = absurd is
later b k size r (Err e) (Err f) is = is

chosen : {A B E : Type 0} (R : A → B → Type 0) (test : Bool) (x x' : Result A E) (y y' : Result B E) → Alike R x y → Alike R x' y' → Alike R (cond test x x') (cond test y y')
chosen R true x x' y y' first second = first
chosen R false x x' y y' first second = second

one : (k b r : ℕ) (rest : List ℕ) → ReadAlike (suc k) (suc (length rest)) (suc r) (b, rest) (b, take r rest)
one k b r rest = record { number = refl; used = 1; few = omega arith; behind = omega arith; rest = ap (λ n. take n rest) (omega arith) }

varint_within_front : (k r : ℕ) (s : List ℕ) → k ≤ r → Alike (ReadAlike k (length s) r) (varint_within k s) (varint_within k (take r s))
varint_within_front zero r s within = refl
varint_within_front (suc k) zero s within = absurd (omega (arith, within))
varint_within_front (suc k) (suc r) [] within = refl
varint_within_front (suc zero) (suc r) (b ∷ rest) within =
    chosen (ReadAlike 1 (suc (length rest)) (suc r)) (nat_lt b 2) (Ok (b, rest)) (Err LongVarint) (Ok (b, take r rest)) (Err LongVarint) (one 0 b r rest) refl
varint_within_front (suc (suc k)) (suc r) (b ∷ rest) within =
    chosen (ReadAlike (suc (suc k)) (suc (length rest)) (suc r)) (nat_lt b 128) (Ok (b, rest)) (varint_within (suc k) rest >>= λ x. Ok (b % 128 + 128 * x.0, x.1)) (Ok (b, take r rest)) (varint_within (suc k) (take r rest) >>= λ x. Ok (b % 128 + 128 * x.0, x.1))
    (one (suc k) b r rest)
    (later (b % 128) (suc k) (length rest) r (varint_within (suc k) rest) (varint_within (suc k) (take r rest)) (varint_within_front (suc k) r rest (omega (arith, within))))

pub varint_front : (r : ℕ) (s : List ℕ) → 10 ≤ r → Alike (ReadAlike 10 (length s) r) (varint_at s) (varint_at (take r s))
unfolding varint_at
varint_front r s within = varint_within_front 10 r s within
