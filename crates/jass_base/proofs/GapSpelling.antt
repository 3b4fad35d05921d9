-- A gap and its shortest varint.
use Rattle.shared_lemmas.proofs.Common.{◌≡◌, ℕ, zero, suc, ◌+◌, ◌*◌, ◌/◌, ◌%◌, ◌^◌, ◌<◌, ◌≤◌, ◌==◌, Bool, true, false, cond, List, [], ◌∷◌, ◌++◌, length, take, All, Result, Ok, Err, refl, ap, subst, arith, add-one, nat_lt, nat_tests, pow-suc}
use Rattle.shared_lemmas.proofs.Numbers.{power_some}
use Rattle.jass_base.specs.declared.payload_fault.PayloadFault.{PayloadFault}
use Rattle.jass_base.specs.declared.payload_fault.PayloadFault.TheVariants.{Shape}
use Rattle.jass_base.specs.Gaps.{GapSpelling, ◌>>=◌, gap_within, gap_in}
use Rattle.jass_base.specs.Wire.{short_varint, short_varint_within}
use Rattle.shared_lemmas.proofs.Results.{if_ok, unless_ok, ok_same}

abbrev pub spelled : ℕ → ℕ → Result GapSpelling PayloadFault
spelled gap size = Ok (record { gap = gap; size = size })

pub spelled_same : (g h m n : ℕ) → spelled g m ≡ spelled h n → (g ≡ h) × (m ≡ n)
spelled_same g h m n is =
    let x : GapSpelling = record { gap = g; size = m } in
    let y : GapSpelling = record { gap = h; size = n } in
    let e : x ≡ y = cc in
    (ap (λ (r : GapSpelling). r.gap) e, ap (λ (r : GapSpelling). r.size) e)

-- the law of reading gaps
abbrev pub GapFound : Type 0
GapFound = (gap : ℕ) (rest : List ℕ) → gap < 2 ^ 28 → gap_in (short_varint gap ++ rest) ≡ spelled gap (length (short_varint gap))

-- what a gap of at least two groups is, by the groups behind the first
abbrev pub with_first : ℕ → GapSpelling → Result GapSpelling PayloadFault
with_first b rest = cond (rest.gap == 0) (Err Shape) (spelled (b % 128 + 128 * rest.gap) (rest.size + 1))

-- a step that was read
pub bound : {A B : Type 0} (r : Result A PayloadFault) (f : A → Result B PayloadFault) (y : B) → (r >>= f) ≡ Ok y → (x : A) × (r ≡ Ok x) × (f x ≡ Ok y)
bound (Ok x) f y is = (x, refl, is)
bound (Err fault) f y is = absurd cc

-- each gap is read
pub within_found : (k m gap : ℕ) (rest : List ℕ) → k ≤ m → gap < 128 * 128 ^ k → gap_within k (short_varint_within m gap ++ rest) ≡ spelled gap (length (short_varint_within m gap))
within_found zero zero gap rest fewer small = let low : nat_lt gap 128 ≡ true = grind (arith, nat_tests) in rw low refl
within_found zero (suc m) gap rest fewer small = let low : nat_lt gap 128 ≡ true = grind (arith, nat_tests) in rw low (rw low refl)
within_found (suc k) zero gap rest fewer small = absurd (omega arith)
within_found (suc k) (suc m) gap rest fewer small = go (nat_lt gap 128) refl (λ less. within_found k m (gap / 128) rest (omega arith) less)
  where
    go : (test : Bool) → nat_lt gap 128 ≡ test
        → (gap / 128 < 128 * 128 ^ k → gap_within k (short_varint_within m (gap / 128) ++ rest) ≡ spelled (gap / 128) (length (short_varint_within m (gap / 128))))
        → gap_within (suc k) (cond test (gap ∷ []) ((gap % 128 + 128) ∷ short_varint_within m (gap / 128)) ++ rest) ≡ spelled gap (length (cond test (gap ∷ []) ((gap % 128 + 128) ∷ short_varint_within m (gap / 128))))
    go true low more = rw low refl
    go false large more =
        let high : 128 ≤ gap = grind (arith, nat_tests) in
        let top : nat_lt (gap % 128 + 128) 128 ≡ false = grind (arith, nat_tests) in
        let inner = more (omega (arith, small, pow-suc 128 k)) in
        let some : (gap / 128 == 0) ≡ false = grind (arith, nat_tests) in
        let value : (gap % 128 + 128) % 128 + 128 * (gap / 128) ≡ gap = omega arith in
        rw (top, inner, some, value, add-one) refl

-- what is read is small
pub record IsRead (k : ℕ) (bytes : List ℕ) (read : GapSpelling) : Type 0 where
  pub limit : read.gap < 128 * 128 ^ k
  pub some : 0 < read.size
  pub most : read.size ≤ k + 1
  pub inside : read.size ≤ length bytes

one_read : (k b : ℕ) (bytes : List ℕ) (read : GapSpelling) → b < 128 → spelled b 1 ≡ Ok read → IsRead k (b ∷ bytes) read
one_read k b bytes read small is =
    subst (IsRead k (b ∷ bytes)) (ok_same (record { gap = b; size = 1 }) read is)
    (record { limit = let some = power_some k in omega arith; some = omega arith; most = omega arith; inside = omega arith })

more_read : (k b : ℕ) (bytes : List ℕ) (rest read : GapSpelling) → IsRead k bytes rest → spelled (b % 128 + 128 * rest.gap) (rest.size + 1) ≡ Ok read → IsRead (suc k) (b ∷ bytes) read
more_read k b bytes rest read far is =
    subst (IsRead (suc k) (b ∷ bytes)) (ok_same (record { gap = b % 128 + 128 * rest.gap; size = rest.size + 1 }) read is)
    (record { limit = omega (arith, far.limit, pow-suc 128 k); some = omega arith; most = omega (arith, far.most); inside = omega (arith, far.inside) })

pub is_read : (k : ℕ) (bytes : List ℕ) (read : GapSpelling) → gap_within k bytes ≡ Ok read → IsRead k bytes read
is_read zero [] read is = absurd cc
is_read (suc k) [] read is = absurd cc
is_read zero (b ∷ bytes) read is =
    let t = if_ok (nat_lt b 128) (spelled b 1) Shape read is in
    let low = t.0 in
    one_read zero b bytes read (grind (arith, nat_tests)) t.1
is_read (suc k) (b ∷ bytes) read is = go (nat_lt b 128) refl is (λ rest h. is_read k bytes rest h)
  where
    go : (test : Bool) → nat_lt b 128 ≡ test → cond test (spelled b 1) (gap_within k bytes >>= with_first b) ≡ Ok read
        → ((rest : GapSpelling) → gap_within k bytes ≡ Ok rest → IsRead k bytes rest) → IsRead (suc k) (b ∷ bytes) read
    go true low is more = one_read (suc k) b bytes read (grind (arith, nat_tests)) is
    go false large is more =
        let x = bound (gap_within k bytes) (with_first b) read is in
        let t = unless_ok (x.0.gap == 0) Shape (spelled (b % 128 + 128 * x.0.gap) (x.0.size + 1)) read x.2 in
        more_read k b bytes x.0 read (more x.0 x.1) t.1

-- and is the shortest varint
abbrev Spells : ℕ → List ℕ → GapSpelling → Type 0
Spells m bytes read = take read.size bytes ≡ short_varint_within m read.gap

one_spells : (m b : ℕ) (bytes : List ℕ) (read : GapSpelling) → nat_lt b 128 ≡ true → spelled b 1 ≡ Ok read → Spells m (b ∷ bytes) read
one_spells zero b bytes read low is = subst (Spells zero (b ∷ bytes)) (ok_same (record { gap = b; size = 1 }) read is) refl
one_spells (suc m) b bytes read low is = subst (Spells (suc m) (b ∷ bytes)) (ok_same (record { gap = b; size = 1 }) read is) (rw low refl)

more_spells : (m b : ℕ) (bytes : List ℕ) (rest read : GapSpelling) → Spells m bytes rest → 128 ≤ b → b < 256 → 1 ≤ rest.gap
    → spelled (b % 128 + 128 * rest.gap) (rest.size + 1) ≡ Ok read → Spells (suc m) (b ∷ bytes) read
more_spells m b bytes rest read far high byte some is =
    let large : nat_lt (b % 128 + 128 * rest.gap) 128 ≡ false = grind (arith, nat_tests) in
    let first : (b % 128 + 128 * rest.gap) % 128 + 128 ≡ b = omega arith in
    let next : (b % 128 + 128 * rest.gap) / 128 ≡ rest.gap = omega arith in
    subst (Spells (suc m) (b ∷ bytes)) (ok_same (record { gap = b % 128 + 128 * rest.gap; size = rest.size + 1 }) read is)
    (rw (large, first, next, add-one) (ap (λ (s : List ℕ). b ∷ s) far))

pub spells : (k m : ℕ) (bytes : List ℕ) (read : GapSpelling) → k ≤ m → All (λ byte. byte < 256) bytes → gap_within k bytes ≡ Ok read → Spells m bytes read
spells zero m [] read fewer all is = absurd cc
spells (suc k) m [] read fewer all is = absurd cc
spells zero m (b ∷ bytes) read fewer all is = let t = if_ok (nat_lt b 128) (spelled b 1) Shape read is in one_spells m b bytes read t.0 t.1
spells (suc k) zero (b ∷ bytes) read fewer all is = absurd (omega arith)
spells (suc k) (suc m) (b ∷ bytes) read fewer all is = go (nat_lt b 128) refl is (λ rest h. spells k m bytes rest (omega arith) (λ i d s. all (suc i) d (omega arith)) h)
  where
    go : (test : Bool) → nat_lt b 128 ≡ test → cond test (spelled b 1) (gap_within k bytes >>= with_first b) ≡ Ok read
        → ((rest : GapSpelling) → gap_within k bytes ≡ Ok rest → Spells m bytes rest) → Spells (suc m) (b ∷ bytes) read
    go true low is more = one_spells (suc m) b bytes read low is
    go false large is more =
        let high : 128 ≤ b = grind (arith, nat_tests) in
        let x = bound (gap_within k bytes) (with_first b) read is in
        let t = unless_ok (x.0.gap == 0) Shape (spelled (b % 128 + 128 * x.0.gap) (x.0.size + 1)) read x.2 in
        let not_zero = t.0 in
        let some : 1 ≤ x.0.gap = grind (arith, nat_tests) in
        more_spells m b bytes x.0 read (more x.0 x.1) high (all 0 0 (omega arith)) some t.1

pub gap_found : (gap : ℕ) (rest : List ℕ) → gap < 2 ^ 28 → gap_in (short_varint gap ++ rest) ≡ spelled gap (length (short_varint gap))
unfolding gap_in short_varint
gap_found gap rest small = within_found 3 9 gap rest (omega arith) small

pub gap_is_read : (bytes : List ℕ) (read : GapSpelling) → gap_in bytes ≡ Ok read → IsRead 3 bytes read
unfolding gap_in
gap_is_read bytes read is = is_read 3 bytes read is

pub gap_spells : (bytes : List ℕ) (read : GapSpelling) → All (λ byte. byte < 256) bytes → gap_in bytes ≡ Ok read → take read.size bytes ≡ short_varint read.gap
unfolding gap_in short_varint
gap_spells bytes read all is = spells 3 9 bytes read (omega arith) all is
