-- What is read as a varint is one, and each varint is read.
use Rattle.shared_lemmas.proofs.Common.{◌≡◌, ℕ, zero, suc, ◌+◌, ◌*◌, ◌^◌, ◌%◌, ◌<◌, ◌≤◌, Bool, true, false, cond, List, [], ◌∷◌, ◌++◌, length, Result, Ok, Err, refl, sym, ap, ◌∙◌, arith, nat_lt, nat_tests, pow-suc}
use Rattle.shared_lemmas.proofs.Numbers.{power_some}
use Rattle.jass_base.specs.Wire.{AreGroups, IsVarint, groups_value}
use Rattle.wire_fields.specs.declared.fault.WireWhy.{WireWhy}
use Rattle.wire_fields.specs.declared.fault.WireWhy.TheVariants.{LongVarint}
use Rattle.wire_fields.specs.Reading.{◌>>=◌, varint_at, varint_within}
use Rattle.shared_lemmas.proofs.Results.{if_ok}

abbrev read_as : ℕ → List ℕ → Result (ℕ × List ℕ) WireWhy
read_as n rest = Ok (n, rest)

-- what the read bytes are
pub record Stands (k : ℕ) (bytes : List ℕ) (n : ℕ) (rest : List ℕ) : Type 0 where
  pub s : List ℕ
  pub parts : bytes ≡ s ++ rest
  pub groups : AreGroups s
  pub short : length s ≤ k
  pub value : n ≡ groups_value s

pub same_read : (n m : ℕ) (rest other : List ℕ) → read_as n rest ≡ read_as m other → (n ≡ m) × (rest ≡ other)
same_read n m rest other is = let pair : (n, rest) ≡ (m, other) = cc in (ap (λ (p : ℕ × List ℕ). p.0) pair, ap (λ (p : ℕ × List ℕ). p.1) pair)

-- a step that was read
pub bound : {A B : Type 0} (r : Result A WireWhy) (f : A → Result B WireWhy) (y : B) → (r >>= f) ≡ Ok y → (x : A) × (r ≡ Ok x) × (f x ≡ Ok y)
bound (Ok x) f y is = (x, refl, is)
bound (Err why) f y is = absurd cc

one_stands : (k b : ℕ) (rest after : List ℕ) (n : ℕ) → b < 128 → read_as b rest ≡ read_as n after → Stands (suc k) (b ∷ rest) n after
one_stands k b rest after n small is =
    let e = same_read b n rest after is in
    record { s = b ∷ []; parts = ap (λ (r : List ℕ). b ∷ r) e.1; groups = small; short = omega arith; value = let v = e.0 in omega arith }

more_stands : (k b : ℕ) (rest after : List ℕ) (m n : ℕ) → 128 ≤ b → Stands (suc k) rest m after → n ≡ b % 128 + 128 * m → Stands (suc (suc k)) (b ∷ rest) n after
more_stands k b rest after m n high st is = go st.s st.parts st.groups st.short st.value
  where
    go : (s : List ℕ) → rest ≡ s ++ after → AreGroups s → length s ≤ suc k → m ≡ groups_value s → Stands (suc (suc k)) (b ∷ rest) n after
    go [] parts groups short value = absurd groups
    go (c ∷ s) parts groups short value = record { s = b ∷ c ∷ s; parts = ap (λ (r : List ℕ). b ∷ r) parts; groups = (high, groups); short = omega arith; value = is ∙ ap (λ v. b % 128 + 128 * v) value }

stands : (k : ℕ) (bytes : List ℕ) (n : ℕ) (rest : List ℕ) → varint_within k bytes ≡ Ok (n, rest) → Stands k bytes n rest
stands zero bytes n rest is = absurd cc
stands (suc k) [] n rest is = absurd cc
stands (suc zero) (b ∷ bytes) n rest is =
    let t = if_ok (nat_lt b 2) (Ok (b, bytes)) LongVarint (n, rest) is in
    let low = t.0 in
    let small : b < 128 = grind (arith, nat_tests) in
    one_stands zero b bytes rest n small t.1
stands (suc (suc k)) (b ∷ bytes) n rest is = go (nat_lt b 128) refl is (λ m after h. stands (suc k) bytes m after h)
  where
    go : (test : Bool) → nat_lt b 128 ≡ test → cond test (read_as b bytes) (varint_within (suc k) bytes >>= λ x. read_as (b % 128 + 128 * x.0) x.1) ≡ read_as n rest
        → ((m : ℕ) (after : List ℕ) → varint_within (suc k) bytes ≡ read_as m after → Stands (suc k) bytes m after) → Stands (suc (suc k)) (b ∷ bytes) n rest
    go true low is more = let small : b < 128 = grind (arith, nat_tests) in one_stands (suc k) b bytes rest n small is
    go false low is more =
        let high : 128 ≤ b = grind (arith, nat_tests) in
        let x = bound (varint_within (suc k) bytes) (λ x. read_as (b % 128 + 128 * x.0) x.1) (n, rest) is in
        let e = same_read (b % 128 + 128 * x.0.0) n x.0.1 rest x.2 in
        let inner : varint_within (suc k) bytes ≡ Ok (x.0.0, rest) = x.1 ∙ ap (λ (r : List ℕ). Ok (x.0.0, r)) e.1 in
        more_stands k b bytes rest x.0.0 n high (more x.0.0 rest inner) (sym e.0)

-- a number that was read fits
fits : (k : ℕ) (bytes : List ℕ) (n : ℕ) (rest : List ℕ) → varint_within (suc k) bytes ≡ Ok (n, rest) → n < 2 * 128 ^ k
fits k [] n rest is = absurd cc
fits zero (b ∷ bytes) n rest is =
    let t = if_ok (nat_lt b 2) (Ok (b, bytes)) LongVarint (n, rest) is in
    let small : b < 2 = grind (arith, nat_tests) in
    let e = same_read b n bytes rest t.1 in
    omega (arith, e.0, t.0)
fits (suc k) (b ∷ bytes) n rest is = go (nat_lt b 128) refl is (λ m after h. fits k bytes m after h)
  where
    go : (test : Bool) → nat_lt b 128 ≡ test → cond test (read_as b bytes) (varint_within (suc k) bytes >>= λ x. read_as (b % 128 + 128 * x.0) x.1) ≡ read_as n rest
        → ((m : ℕ) (after : List ℕ) → varint_within (suc k) bytes ≡ read_as m after → m < 2 * 128 ^ k) → n < 2 * 128 ^ suc k
    go true low is more =
        let small : b < 128 = grind (arith, nat_tests) in
        let e = same_read b n bytes rest is in
        omega (arith, e.0, pow-suc 128 k, power_some k)
    go false low is more =
        let x = bound (varint_within (suc k) bytes) (λ x. read_as (b % 128 + 128 * x.0) x.1) (n, rest) is in
        let e = same_read (b % 128 + 128 * x.0.0) n x.0.1 rest x.2 in
        omega (arith, e.0, pow-suc 128 k, more x.0.0 x.0.1 x.1)

-- each varint is read
again : (k : ℕ) (s rest : List ℕ) → AreGroups s → length s ≤ suc k → groups_value s < 2 * 128 ^ k → varint_within (suc k) (s ++ rest) ≡ Ok (groups_value s, rest)
again k [] rest groups short small = absurd groups
again zero (b ∷ []) rest groups short small =
    let low : nat_lt b 2 ≡ true = grind (arith, nat_tests) in
    let value : b % 128 + 128 * 0 ≡ b = omega arith in
    rw (low, value) refl
again zero (b ∷ c ∷ s) rest groups short small = absurd (omega arith)
again (suc k) (b ∷ []) rest groups short small =
    let low : nat_lt b 128 ≡ true = grind (arith, nat_tests) in
    let value : b % 128 + 128 * 0 ≡ b = omega arith in
    rw (low, value) refl
again (suc k) (b ∷ c ∷ s) rest groups short small =
    let more = groups.0 in
    let high : nat_lt b 128 ≡ false = grind (arith, nat_tests) in
    let less : groups_value (c ∷ s) < 2 * 128 ^ k = omega (arith, small, pow-suc 128 k) in
    let inner = again k (c ∷ s) rest groups.1 (omega arith) less in
    rw (high, inner) refl

pub varint_stands : (bytes : List ℕ) (n : ℕ) (rest : List ℕ) → varint_at bytes ≡ Ok (n, rest) → (s : List ℕ) × (bytes ≡ s ++ rest) × IsVarint s n
unfolding varint_at
varint_stands bytes n rest is =
    let st = stands 10 bytes n rest is in
    (st.s, st.parts, record { groups = st.groups; short = st.short; value = st.value; fits = fits 9 bytes n rest is })

pub varint_again : (s rest : List ℕ) (n : ℕ) → IsVarint s n → varint_at (s ++ rest) ≡ Ok (n, rest)
unfolding varint_at
varint_again s rest n is =
    let small : groups_value s < 2 * 128 ^ 9 = omega (arith, is.value, is.fits) in
    again 9 s rest is.groups is.short small ∙ ap (λ m. Ok (m, rest)) (sym is.value)
