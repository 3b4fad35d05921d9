-- How many bytes the shortest varint of a gap has, and bytes that begin with it.
use Rattle.shared_lemmas.proofs.Common.{◌≡◌, ℕ, suc, ◌+◌, ◌*◌, ◌/◌, ◌%◌, ◌^◌, ◌<◌, ◌≤◌, List, [], ◌∷◌, length, take, refl, ap, ◌∙◌, arith, inl, inr, cases_lt, lt-ltb, le-ltb}
use Rattle.jass_base.specs.Wire.{short_varint, short_varint_within}
use Rattle.jass_base.proofs.ShortVarints.{last_group, more_groups}

one : (k n : ℕ) → n < 128 → length (short_varint_within (suc k) n) ≡ 1
one k n low = rw (lt-ltb _ _ low) refl

more : (k n m : ℕ) → 128 ≤ n → length (short_varint_within k (n / 128)) ≡ m → length (short_varint_within (suc k) n) ≡ m + 1
more k n m high is = rw (le-ltb _ _ high) (omega (arith, is))

pub length_one : (gap : ℕ) → gap < 128 → length (short_varint gap) ≡ 1
unfolding short_varint
length_one gap low = one 8 gap low

pub length_two : (gap : ℕ) → 128 ≤ gap → gap < 16384 → length (short_varint gap) ≡ 2
unfolding short_varint
length_two gap high low = more 8 gap 1 high (one 7 (gap / 128) (omega arith))

pub length_three : (gap : ℕ) → 16384 ≤ gap → gap < 2097152 → length (short_varint gap) ≡ 3
unfolding short_varint
length_three gap high low = more 8 gap 2 (omega arith) (more 7 (gap / 128) 1 (omega arith) (one 6 (gap / 128 / 128) (omega arith)))

pub length_four : (gap : ℕ) → 2097152 ≤ gap → gap < 268435456 → length (short_varint gap) ≡ 4
unfolding short_varint
length_four gap high low =
    more 8 gap 3 (omega arith) (more 7 (gap / 128) 2 (omega arith) (more 6 (gap / 128 / 128) 1 (omega arith) (one 5 (gap / 128 / 128 / 128) (omega arith))))

pub length_five : (gap : ℕ) → 268435456 ≤ gap → gap < 2 ^ 32 → length (short_varint gap) ≡ 5
unfolding short_varint
length_five gap high low =
    more 8 gap 4 (omega arith) (more 7 (gap / 128) 3 (omega arith) (more 6 (gap / 128 / 128) 2 (omega arith)
    (more 5 (gap / 128 / 128 / 128) 1 (omega arith) (one 4 (gap / 128 / 128 / 128 / 128) (omega arith)))))

-- a byte, and one more for each limit that a gap reaches
pub length_sum : (gap x y z w : ℕ) → gap < 2 ^ 32
    → (gap < 128 → x ≡ 0) → (128 ≤ gap → x ≡ 1) → (gap < 16384 → y ≡ 0) → (16384 ≤ gap → y ≡ 1)
    → (gap < 2097152 → z ≡ 0) → (2097152 ≤ gap → z ≡ 1) → (gap < 268435456 → w ≡ 0) → (268435456 ≤ gap → w ≡ 1)
    → 1 + x + y + z + w ≡ length (short_varint gap)
length_sum gap x y z w fits x0 x1 y0 y1 z0 z1 w0 w1 =
    elim (cases_lt gap 128) [
      | inl a ↦ omega (arith, length_one gap a, x0 a, y0 (omega (arith, a)), z0 (omega (arith, a)), w0 (omega (arith, a)))
      | inr a ↦ elim (cases_lt gap 16384) [
        | inl b ↦ omega (arith, length_two gap a b, x1 a, y0 b, z0 (omega (arith, b)), w0 (omega (arith, b)))
        | inr b ↦ elim (cases_lt gap 2097152) [
          | inl d ↦ omega (arith, length_three gap b d, x1 a, y1 b, z0 d, w0 (omega (arith, d)))
          | inr d ↦ elim (cases_lt gap 268435456) [
            | inl e ↦ omega (arith, length_four gap d e, x1 a, y1 b, z1 d, w0 e)
            | inr e ↦ omega (arith, length_five gap e fits, x1 a, y1 b, z1 d, w1 e)
          ]
        ]
      ]
    ]

-- bytes that begin with the shortest varint of a number, of at most so many groups behind the first
abbrev Begin : ℕ → List ℕ → ℕ → Type 0
Begin k bytes n = take (length (short_varint_within k n)) bytes ≡ short_varint_within k n

last_begins : (k n : ℕ) (bytes : List ℕ) → n < 128 → Begin (suc k) (n ∷ bytes) n
last_begins k n bytes low = rw (lt-ltb _ _ low) refl

group_begins : (k n : ℕ) (bytes : List ℕ) → 128 ≤ n → Begin k bytes (n / 128) → Begin (suc k) ((n % 128 + 128) ∷ bytes) n
group_begins k n bytes high is = rw (le-ltb _ _ high) (ap (λ (s : List ℕ). (n % 128 + 128) ∷ s) is)

-- one byte of seven bits, with a top bit where more follows
step : (k n x : ℕ) (bytes : List ℕ) → (n < 128 → x ≡ 0) → (128 ≤ n → x ≡ 1) → Begin k bytes (n / 128) → Begin (suc k) ((n % 128 + 128 * x) ∷ bytes) n
step k n x bytes none some is =
    elim (cases_lt n 128) [
      | inl l ↦ let a : n % 128 + 128 * x ≡ n = omega (arith, none l) in rw a (last_begins k n bytes l)
      | inr m ↦ let a : n % 128 + 128 * x ≡ n % 128 + 128 = omega (arith, some m) in rw a (group_begins k n bytes m is)
    ]

abbrev BeginWithGap : List ℕ → ℕ → Type 0
BeginWithGap bytes gap = take (length (short_varint gap)) bytes ≡ short_varint gap

-- four bytes of seven bits each, with a top bit where more follows
pub groups_begin : (gap x y z : ℕ) → gap < 268435456
    → (gap < 128 → x ≡ 0) → (128 ≤ gap → x ≡ 1) → (gap < 16384 → y ≡ 0) → (16384 ≤ gap → y ≡ 1) → (gap < 2097152 → z ≡ 0) → (2097152 ≤ gap → z ≡ 1)
    → BeginWithGap ((gap % 128 + 128 * x) ∷ (gap / 128 % 128 + 128 * y) ∷ (gap / 16384 % 128 + 128 * z) ∷ gap / 2097152 ∷ []) gap
unfolding short_varint
groups_begin gap x y z fits x0 x1 y0 y1 z0 z1 =
    let third : gap / 16384 ≡ gap / 128 / 128 = omega arith in
    let fourth : gap / 2097152 ≡ gap / 128 / 128 / 128 = omega arith in
    rw (third, fourth) (step 8 gap x _ x0 x1
    (step 7 (gap / 128) y _ (λ l. y0 (omega (arith, l))) (λ m. y1 (omega (arith, m)))
    (step 6 (gap / 128 / 128) z _ (λ l. z0 (omega (arith, l))) (λ m. z1 (omega (arith, m)))
    (last_begins 5 (gap / 128 / 128 / 128) [] (omega arith)))))

pub five_groups : (gap : ℕ) → 268435456 ≤ gap → gap < 2 ^ 32
    → short_varint gap ≡ (gap % 128 + 128) ∷ (gap / 128 % 128 + 128) ∷ (gap / 16384 % 128 + 128) ∷ (gap / 2097152 % 128 + 128) ∷ gap / 268435456 ∷ []
unfolding short_varint
five_groups gap high fits =
    let third : gap / 16384 ≡ gap / 128 / 128 = omega arith in
    let fourth : gap / 2097152 ≡ gap / 128 / 128 / 128 = omega arith in
    let fifth : gap / 268435456 ≡ gap / 128 / 128 / 128 / 128 = omega arith in
    let last = last_group 5 (gap / 128 / 128 / 128 / 128) (omega arith) in
    let two = more_groups 5 (gap / 128 / 128 / 128) (omega arith) ∙ ap (λ (s : List ℕ). (gap / 128 / 128 / 128 % 128 + 128) ∷ s) last in
    let three = more_groups 6 (gap / 128 / 128) (omega arith) ∙ ap (λ (s : List ℕ). (gap / 128 / 128 % 128 + 128) ∷ s) two in
    let four = more_groups 7 (gap / 128) (omega arith) ∙ ap (λ (s : List ℕ). (gap / 128 % 128 + 128) ∷ s) three in
    rw (third, fourth, fifth) (more_groups 8 gap (omega arith) ∙ ap (λ (s : List ℕ). (gap % 128 + 128) ∷ s) four)
