-- A gap that is read group by group.
use Rattle.shared_lemmas.proofs.Common.{◌≡◌, ℕ, zero, suc, ◌+◌, ◌-◌, ◌*◌, ◌%◌, ◌^◌, ◌<◌, ◌≤◌, ◌≢◌, ◌==◌, true, false, cond, List, [], ◌∷◌, length, get_or, drop, Result, Ok, Err, refl, sym, ap, ◌∙◌, subst, inl, inr, arith, add-one, drop-cons, nat_lt, IsOk, cases_lt, cond-false, nat_tests, drop_all}
use Rattle.shared_lemmas.proofs.Common.{length-drop, get_or-drop, pow-suc}
use Rattle.shared_lemmas.proofs.Numbers.{value_small}
use Rattle.jass_base.specs.declared.payload_fault.PayloadFault.{PayloadFault}
use Rattle.jass_base.specs.declared.payload_fault.PayloadFault.TheVariants.{Cut, Shape}
use Rattle.jass_base.specs.Gaps.{GapSpelling, ◌>>=◌, gap_within, gap_in}
use Rattle.jass_base.specs.Wire.{short_varint}
use Rattle.jass_base.proofs.GapSpelling.{spelled, with_first}

-- what is read where lower groups have this value, at this scale, in so many bytes
abbrev pub behind : ℕ → ℕ → ℕ → Result GapSpelling PayloadFault → Result GapSpelling PayloadFault
behind gap scale size read = read >>= λ rest. cond (rest.gap == 0) (Err Shape) (spelled (gap + scale * rest.gap) (rest.size + size))

-- at most so many groups
abbrev pub gap_groups : ℕ → List ℕ → Result GapSpelling PayloadFault
gap_groups zero bytes = Err Shape
gap_groups (suc k) bytes = gap_within k bytes

behind_some : (gap scale size g s : ℕ) → 1 ≤ g → behind gap scale size (spelled g s) ≡ spelled (gap + scale * g) (s + size)
behind_some gap scale size g s some = cond-false (g == 0) (Err Shape) (spelled (gap + scale * g) (s + size)) (grind (arith, nat_tests))

first_some : (b n s : ℕ) → 1 ≤ n → with_first b (record { gap = n; size = s }) ≡ spelled (b % 128 + 128 * n) (s + 1)
first_some b n s some = cond-false (n == 0) (Err Shape) (spelled (b % 128 + 128 * n) (s + 1)) (grind (arith, nat_tests))

behind_more : (gap scale size b : ℕ) (read : Result GapSpelling PayloadFault) → behind gap scale size (read >>= with_first b) ≡ behind (gap + b % 128 * scale) (scale * 128) (size + 1) read
behind_more gap scale size b (Err fault) = refl
behind_more gap scale size b (Ok rest) = go rest.gap rest.size
  where
    go : (n s : ℕ) → behind gap scale size (with_first b (record { gap = n; size = s })) ≡ behind (gap + b % 128 * scale) (scale * 128) (size + 1) (spelled n s)
    go zero s = refl
    go (suc n) s =
        let some : 1 ≤ suc n = omega arith in
        let value : gap + scale * (b % 128 + 128 * suc n) ≡ gap + b % 128 * scale + scale * 128 * suc n = grind arith in
        let sizes : s + 1 + size ≡ s + (size + 1) = omega arith in
        ap (behind gap scale size) (first_some b (suc n) s some)
        ∙ behind_some gap scale size (b % 128 + 128 * suc n) (s + 1) (omega arith)
        ∙ ap (λ m. spelled m (s + 1 + size)) value ∙ ap (spelled (gap + b % 128 * scale + scale * 128 * suc n)) sizes
        ∙ sym (behind_some (gap + b % 128 * scale) (scale * 128) (size + 1) (suc n) s some)

groups_more : (k b : ℕ) (bytes : List ℕ) → nat_lt b 128 ≡ false → gap_within k (b ∷ bytes) ≡ (gap_groups k bytes >>= with_first b)
groups_more zero b bytes large = rw large refl
groups_more (suc k) b bytes large = rw large refl

none_within : (k : ℕ) → gap_within k [] ≡ Err Cut
none_within zero = refl
none_within (suc k) = refl

one_within : (k b : ℕ) (bytes : List ℕ) → nat_lt b 128 ≡ true → gap_within k (b ∷ bytes) ≡ spelled b 1
one_within zero b bytes low = rw low refl
one_within (suc k) b bytes low = rw low refl

-- the groups before a place, and what is read behind them
pub record SoFar (bytes : List ℕ) (i gap scale : ℕ) : Type 0 where
  pub scale_is : scale ≡ 128 ^ i
  pub below : gap < scale
  pub inside : i ≤ length bytes
  pub read : gap_in bytes ≡ behind gap scale i (gap_groups (4 - i) (drop i bytes))

pub one_group : (bytes : List ℕ) (gap : ℕ) → 0 < length bytes → 128 ≤ get_or bytes 0 0 → get_or bytes 0 0 < 256 → gap ≡ get_or bytes 0 0 - 128 → SoFar bytes 1 gap 128
unfolding gap_in
one_group [] gap some high byte is = absurd (omega arith)
one_group (b ∷ bytes) gap some high byte is =
    let large : nat_lt b 128 ≡ false = grind (arith, nat_tests) in
    let low : b % 128 ≡ gap = omega arith in
    record { scale_is = omega arith; below = omega arith; inside = omega arith; read = groups_more 3 b bytes large ∙ rw (← low) refl }

module _ (bytes : List ℕ) (i gap scale : ℕ) (far : SoFar bytes i gap scale) (few : i < 4) where
  left : 4 - i ≡ suc (3 - i)
  left = omega arith

  pub ends_cut : length bytes ≤ i → gap_in bytes ≡ Err Cut
  ends_cut short = far.read ∙ rw (left, drop_all i bytes short, none_within (3 - i)) refl

  pub ends_shape : i < length bytes → get_or bytes i 0 ≡ 0 → gap_in bytes ≡ Err Shape
  ends_shape within is = far.read ∙ rw (left, drop-cons bytes i 0 within, is, one_within (3 - i) 0 (drop (suc i) bytes) refl) refl

  pub ends_group : (b size : ℕ) → i < length bytes → b ≡ get_or bytes i 0 → b ≢ 0 → b < 128 → size ≡ i + 1 → gap_in bytes ≡ spelled (gap + b * scale) size
  ends_group b size within is some small place =
      let low : nat_lt b 128 ≡ true = grind (arith, nat_tests) in
      let not_zero : (b == 0) ≡ false = grind (arith, nat_tests) in
      let value : gap + scale * b ≡ gap + b * scale = grind arith in
      let sizes : 1 + i ≡ size = omega arith in
      far.read ∙ rw (left, drop-cons bytes i 0 within, ← is, one_within (3 - i) b (drop (suc i) bytes) low, not_zero, value, sizes) refl

  pub one_more : (b : ℕ) → i < length bytes → b ≡ get_or bytes i 0 → 128 ≤ b → b < 256 → SoFar bytes (i + 1) (gap + (b - 128) * scale) (scale * 128)
  one_more b within is high byte =
      let large : nat_lt b 128 ≡ false = grind (arith, nat_tests) in
      let low : b % 128 ≡ b - 128 = omega arith in
      let next : 4 - (i + 1) ≡ 3 - i = omega arith in
      record {
        scale_is = ap (λ n. n * 128) far.scale_is ∙ grind (arith, pow-suc 128 i);
        below = value_small gap (b - 128) scale far.below (omega arith);
        inside = omega arith;
        read = far.read ∙ rw (left, drop-cons bytes i 0 within, ← is, groups_more (3 - i) b (drop (suc i) bytes) large, next, add-one, ← low) (behind_more gap scale i b (gap_groups (3 - i) (drop (suc i) bytes)) ∙ rw add-one refl);
      }

-- all four groups have more behind them
pub ends_long : (bytes : List ℕ) (gap scale : ℕ) → SoFar bytes 4 gap scale → gap_in bytes ≡ Err Shape
ends_long bytes gap scale far = far.read

-- a gap of one group, and none
pub one_byte : (bytes : List ℕ) (at : ℕ) → at < length bytes → get_or bytes at 0 < 128 → gap_in (drop at bytes) ≡ spelled (get_or bytes at 0) 1
unfolding gap_in
one_byte bytes at inside small = let low : nat_lt (get_or bytes at 0) 128 ≡ true = grind (arith, nat_tests) in rw (drop-cons bytes at 0 inside, low) refl

pub no_byte : (bytes : List ℕ) (at : ℕ) → length bytes ≤ at → gap_in (drop at bytes) ≡ Err Cut
unfolding gap_in
no_byte bytes at past = rw (drop_all at bytes past) refl

-- a gap of one group is its varint
pub one_group_written : (gap : ℕ) → gap < 128 → short_varint gap ≡ gap ∷ []
unfolding short_varint
one_group_written gap small = let low : nat_lt gap 128 ≡ true = grind (arith, nat_tests) in rw low refl

-- ---- where a gap is known to stand
no_fault : (read : Result GapSpelling PayloadFault) (fault : PayloadFault) → IsOk read → read ≡ Err fault → ⊥
no_fault (Ok spelling) fault known is = absurd cc
no_fault (Err other) fault known is = absurd cc

pub first_inside : (bytes : List ℕ) (at : ℕ) → IsOk (gap_in (drop at bytes)) → at < length bytes
first_inside bytes at known =
    elim (cases_lt at (length bytes)) [ inl l ↦ l | inr g ↦ absurd (no_fault (gap_in (drop at bytes)) Cut known (no_byte bytes at g)) ]

-- the first group of a gap that begins at a place has more behind it
pub record Begins (bytes : List ℕ) (at x : ℕ) : Type 0 where
  pub within : at < length bytes
  pub byte : (i : ℕ) → get_or bytes i 0 < 256
  pub is : x ≡ get_or bytes at 0
  pub high : 128 ≤ x

pub begins : (bytes : List ℕ) (at : ℕ) {x : ℕ} → at < length bytes → ((i : ℕ) → get_or bytes i 0 < 256) → x ≡ get_or bytes at 0 → 128 ≤ x → Begins bytes at x
begins bytes at within byte is high = record { within = within; byte = byte; is = is; high = high }

pub known_begins : (bytes : List ℕ) (at : ℕ) {x : ℕ} → IsOk (gap_in (drop at bytes)) → ((i : ℕ) → get_or bytes i 0 < 256) → x ≡ get_or bytes at 0 → 128 ≤ x → Begins bytes at x
known_begins bytes at known byte is high = begins bytes at (first_inside bytes at known) byte is high

module _ {bytes : List ℕ} {at x : ℕ} (gap : Begins bytes at x) where
  abbrev pub here : List ℕ
  here = drop at bytes

  long : length here ≡ length bytes - at
  long = length-drop at bytes

  at_place : (i b : ℕ) → b ≡ get_or bytes (at + i) 0 → b ≡ get_or here i 0
  at_place i b same = same ∙ sym (get_or-drop at bytes i 0)

  pub after_one : SoFar here 1 (x - 128) 128
  after_one =
      let w = gap.within in
      let byte = gap.byte at in
      let high = gap.high in
      let same : get_or here 0 0 ≡ x = get_or-drop at bytes 0 0 ∙ ap (λ n. get_or bytes n 0) (let e : at + 0 ≡ at = omega arith in e) ∙ sym gap.is in
      one_group here (x - 128) (omega (arith, long)) (omega (arith, same)) (omega (arith, same, gap.is)) (omega (arith, same))

  after_group : {i low scale : ℕ} (b : ℕ) → SoFar here i low scale → i < 4 → at + i < length bytes → b ≡ get_or bytes (at + i) 0 → 128 ≤ b → SoFar here (i + 1) (low + (b - 128) * scale) (scale * 128)
  after_group {i} {low} {scale} b far few inside same top = one_more here i low scale far few b (omega (arith, long)) (at_place i b same) top (omega (arith, same, gap.byte (at + i)))

  pub after_two : (y : ℕ) → at + 1 < length bytes → y ≡ get_or bytes (at + 1) 0 → 128 ≤ y → SoFar here 2 (x - 128 + (y - 128) * 128) 16384
  after_two y inside same top = after_group y after_one (omega arith) inside same top

  pub after_three : (y z : ℕ) → at + 2 < length bytes → y ≡ get_or bytes (at + 1) 0 → 128 ≤ y → z ≡ get_or bytes (at + 2) 0 → 128 ≤ z
      → SoFar here 3 (x - 128 + (y - 128) * 128 + (z - 128) * 16384) 2097152
  after_three y z inside same top same_third top_third = after_group z (after_two y (omega arith) same top) (omega arith) inside same_third top_third

  module _ {i low scale : ℕ} (far : SoFar here i low scale) where
    pub long_at : (b : ℕ) → i ≡ 3 → at + 3 < length bytes → b ≡ get_or bytes (at + 3) 0 → 128 ≤ b → gap_in here ≡ Err Shape
    long_at b three inside same top =
        let place : at + i ≡ at + 3 = omega arith in
        let next : i + 1 ≡ 4 = omega arith in
        ends_long here (low + (b - 128) * scale) (scale * 128)
        (subst (λ n. SoFar here n (low + (b - 128) * scale) (scale * 128)) next (after_group b far (omega arith) (omega arith) (same ∙ ap (λ n. get_or bytes n 0) (sym place)) top))

    pub cut_at : i < 4 → length bytes - at ≤ i → gap_in here ≡ Err Cut
    cut_at few short = ends_cut here i low scale far few (omega (arith, long))

    pub zero_at : (b : ℕ) → i < 4 → at + i < length bytes → b ≡ get_or bytes (at + i) 0 → b ≡ 0 → gap_in here ≡ Err Shape
    zero_at b few inside same none = ends_shape here i low scale far few (omega (arith, long)) (sym (at_place i b same) ∙ none)

    pub ends_at : (b size : ℕ) → i < 4 → at + i < length bytes → b ≡ get_or bytes (at + i) 0 → b ≢ 0 → b < 128 → size ≡ i + 1 → gap_in here ≡ spelled (low + b * scale) size
    ends_at b size few inside same some small place = ends_group here i low scale far few b size (omega (arith, long)) (at_place i b same) some small place

    module _ (known : IsOk (gap_in here)) where
      pub inside_at : i < 4 → at + i < length bytes
      inside_at few = elim (cases_lt (at + i) (length bytes)) [ inl l ↦ l | inr g ↦ absurd (no_fault (gap_in here) Cut known (cut_at few (omega arith))) ]

      pub known_at : (b size : ℕ) → i < 4 → b ≡ get_or bytes (at + i) 0 → b < 128 → size ≡ i + 1 → gap_in here ≡ spelled (low + b * scale) size
      known_at b size few same small place =
          ends_at b size few (inside_at few) same (λ none. no_fault (gap_in here) Shape known (zero_at b few (inside_at few) same none)) small place

      pub last_small : (b : ℕ) → i ≡ 3 → b ≡ get_or bytes (at + 3) 0 → b < 128
      last_small b three same =
          elim (cases_lt b 128) [
            | inl l ↦ l
            | inr g ↦ absurd (no_fault (gap_in here) Shape known (long_at b three (let inside = inside_at (omega arith) in omega arith) same g))
          ]
