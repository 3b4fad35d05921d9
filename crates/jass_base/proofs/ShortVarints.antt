-- The shortest varint of a number.
use Rattle.shared_lemmas.proofs.Common.{◌≡◌, ℕ, zero, suc, ◌+◌, ◌*◌, ◌^◌, ◌%◌, ◌/◌, ◌<◌, ◌≤◌, ◌≢◌, Bool, true, false, cond, List, [], ◌∷◌, length, All, refl, ap, ◌∙◌, arith, nat_lt, pow-suc, nat_tests}
use Rattle.jass_base.specs.Wire.{groups_value, AreGroups, EndsInBits, IsShortVarint, short_varint_within, short_varint}

-- what is proved of so many groups of a number
record Spelled (most n : ℕ) (s : List ℕ) : Type 0 where
  groups : AreGroups s
  value : n ≡ groups_value s
  short : length s ≤ most
  some : 1 ≤ n → EndsInBits s
  shortest : length s ≢ 1 → EndsInBits s

last_one : (most n : ℕ) → n < 128 → 1 ≤ most → Spelled most n (n ∷ [])
last_one most n small some = record { groups = small; value = omega arith; short = omega arith; some = (λ least zero_is. omega (arith, least, zero_is)); shortest = (λ other. absurd (other refl)) }

one_more : (most n : ℕ) (s : List ℕ) → 128 ≤ n → Spelled most (n / 128) s → Spelled (suc most) n ((n % 128 + 128) ∷ s)
one_more most n [] large later = absurd later.groups
one_more most n (c ∷ s) large later =
    let ends : EndsInBits (c ∷ s) = later.some (omega (arith, large)) in
    record { groups = (omega arith, later.groups); value = omega (arith, later.value); short = omega (arith, later.short); some = (λ least. ends); shortest = (λ other. ends) }

spelled_within : (k n : ℕ) → n < 128 * 128 ^ k → Spelled (suc k) n (short_varint_within k n)
spelled_within zero n small = last_one 1 n (omega arith) (omega arith)
spelled_within (suc k) n small = go (nat_lt n 128) refl (λ less. spelled_within k (n / 128) less)
  where
    go : (test : Bool) → nat_lt n 128 ≡ test → (n / 128 < 128 * 128 ^ k → Spelled (suc k) (n / 128) (short_varint_within k (n / 128)))
        → Spelled (suc (suc k)) n (cond test (n ∷ []) ((n % 128 + 128) ∷ short_varint_within k (n / 128)))
    go true low more = last_one (suc (suc k)) n (grind (arith, nat_tests)) (omega arith)
    go false high more =
        let large : 128 ≤ n = grind (arith, nat_tests) in
        one_more (suc k) n (short_varint_within k (n / 128)) large (more (omega (arith, small, pow-suc 128 k)))

pub short_is_shortest : (n : ℕ) → n < 2 ^ 64 → IsShortVarint (short_varint n) n
unfolding short_varint
short_is_shortest n fits =
    let all : Spelled 10 n (short_varint_within 9 n) = spelled_within 9 n (omega arith) in
    record { varint = record { groups = all.groups; short = all.short; value = all.value; fits = fits }; shortest = all.shortest }

some_bits : (s : List ℕ) → AreGroups s → EndsInBits s → 1 ≤ groups_value s
some_bits [] groups ends = absurd ends
some_bits (b ∷ []) groups ends = let other : b ≢ 0 = ends in omega (arith, groups, other)
some_bits (b ∷ c ∷ s) groups ends = let more = some_bits (c ∷ s) groups.1 ends in omega (arith, more)

within_one : (k n : ℕ) (s : List ℕ) → All (λ byte. byte < 256) s → AreGroups s → length s ≤ suc k → n ≡ groups_value s → (length s ≢ 1 → EndsInBits s) → s ≡ short_varint_within k n
within_one k n [] bytes groups short value ends = absurd groups
within_one zero n (b ∷ []) bytes groups short value ends = let same : b ≡ n = omega (arith, groups, value) in ap (λ x. x ∷ []) same
within_one (suc k) n (b ∷ []) bytes groups short value ends =
    let same : b ≡ n = omega (arith, groups, value) in
    let low : nat_lt n 128 ≡ true = grind (arith, nat_tests) in
    rw low (ap (λ x. x ∷ []) same)
within_one zero n (b ∷ c ∷ s) bytes groups short value ends = absurd (omega arith)
within_one (suc k) n (b ∷ c ∷ s) bytes groups short value ends =
    let bits : EndsInBits (c ∷ s) = ends (λ is. omega (arith, is)) in
    let some : 1 ≤ groups_value (c ∷ s) = some_bits (c ∷ s) groups.1 bits in
    let high : nat_lt n 128 ≡ false = grind (arith, nat_tests) in
    let first : b ≡ n % 128 + 128 = omega (arith, value, groups.0, bytes 0 0 (omega arith)) in
    let rest : n / 128 ≡ groups_value (c ∷ s) = omega (arith, value) in
    let later = within_one k (n / 128) (c ∷ s) (λ i d inside. bytes (suc i) d (omega (arith, inside))) groups.1 (omega arith) rest (λ other. bits) in
    rw high (ap (λ x. x ∷ c ∷ s) first ∙ ap (λ t. (n % 128 + 128) ∷ t) later)

pub shortest_is_short : (s : List ℕ) (n : ℕ) → All (λ byte. byte < 256) s → IsShortVarint s n → s ≡ short_varint n
unfolding short_varint
shortest_is_short s n bytes is = within_one 9 n s bytes is.varint.groups is.varint.short is.varint.value is.shortest

-- group by group
pub last_group : (k n : ℕ) → n < 128 → short_varint_within k n ≡ n ∷ []
last_group zero n small = refl
last_group (suc k) n small = let low : nat_lt n 128 ≡ true = grind (arith, nat_tests) in rw low refl

pub more_groups : (k n : ℕ) → 128 ≤ n → short_varint_within (suc k) n ≡ (n % 128 + 128) ∷ short_varint_within k (n / 128)
more_groups k n large = let high : nat_lt n 128 ≡ false = grind (arith, nat_tests) in rw high refl

-- it has 10 bytes at most
within_cases : (k n : ℕ) (b : Bool) → length (short_varint_within k (n / 128)) ≤ k + 1 → length (cond b (n ∷ []) ((n % 128 + 128) ∷ short_varint_within k (n / 128))) ≤ suc k + 1
within_cases k n true short = omega arith
within_cases k n false short = omega (arith, short)

length_within : (k n : ℕ) → length (short_varint_within k n) ≤ k + 1
length_within zero n = omega arith
length_within (suc k) n = within_cases k n (nat_lt n 128) (length_within k (n / 128))

pub short_size : (n : ℕ) → length (short_varint n) ≤ 10
unfolding short_varint
short_size n = length_within 9 n
