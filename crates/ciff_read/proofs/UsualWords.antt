-- The eight bytes at a posting in its usual spelling, as a number.
use Rattle.shared_lemmas.proofs.Common.{◌≡◌, ℕ, zero, suc, ◌+◌, ◌-◌, ◌*◌, ◌/◌, ◌%◌, ◌^◌, ◌<◌, ◌≤◌, List, [], ◌∷◌, length, get_or, refl, sym, ap, ◌∙◌, arith, bit_and, and_block, and_mask}
use Rattle.std.specs.Int.Bits.{and_zero_r}
use Rattle.std.proofs.lemmas.Nat.{and_assoc}
use Rattle.std.proofs.lemmas.Nat.Bits.{and_high}
use Rattle.std.proofs.Math.Nat.{mul-div_cancel}
use Rattle.ciff_read.proofs.ShortEntries.{Begins, narrow, wide, wider}

-- ---- bits that are known

-- a number in the bits of a word, of which the fixed ones are these
known : (word fixed spelled j k field : ℕ) → bit_and word fixed ≡ spelled → bit_and fixed (2 ^ (j + k) - 2 ^ k) ≡ 2 ^ (j + k) - 2 ^ k → bit_and spelled (2 ^ (j + k) - 2 ^ k) ≡ field * 2 ^ k → 0 < 2 ^ k → word / 2 ^ k % 2 ^ j ≡ field
known word fixed spelled j k field is covers value some =
    let mask = 2 ^ (j + k) - 2 ^ k in
    let times : (word / 2 ^ k % 2 ^ j) * 2 ^ k ≡ field * 2 ^ k = sym (and_high word j k) ∙ ap (bit_and word) (sym covers) ∙ sym (and_assoc mask word fixed) ∙ ap (λ n. bit_and n mask) is ∙ value in
    sym (mul-div_cancel (word / 2 ^ k % 2 ^ j) some) ∙ ap (λ n. n / 2 ^ k) times ∙ mul-div_cancel field some

-- ---- the gap in groups of seven bits, each in a byte

groups_two : (n : ℕ) → bit_and n 32639 ≡ n % 128 + 256 * (n / 256 % 128)
groups_two n =
    let parts : n ≡ n / 256 * 2 ^ 8 + n % 256 = omega arith in
    let block : bit_and (n / 256 * 2 ^ 8 + n % 256) (127 * 2 ^ 8 + 127) ≡ bit_and (n / 256) 127 * 2 ^ 8 + bit_and (n % 256) 127 = and_block 8 (n / 256) 127 (n % 256) 127 (omega arith) (omega arith) in
    let high : bit_and (n / 256) 127 ≡ n / 256 % 128 = and_mask (n / 256) 7 in
    let low : bit_and (n % 256) 127 ≡ n % 256 % 128 = and_mask (n % 256) 7 in
    ap (λ m. bit_and m 32639) parts ∙ omega (arith, block, high, low)

groups_three : (n : ℕ) → bit_and n 8355711 ≡ n % 128 + 256 * (n / 256 % 128) + 65536 * (n / 65536 % 128)
groups_three n =
    let parts : n ≡ n / 256 * 2 ^ 8 + n % 256 = omega arith in
    let block : bit_and (n / 256 * 2 ^ 8 + n % 256) (32639 * 2 ^ 8 + 127) ≡ bit_and (n / 256) 32639 * 2 ^ 8 + bit_and (n % 256) 127 = and_block 8 (n / 256) 32639 (n % 256) 127 (omega arith) (omega arith) in
    let high : bit_and (n / 256) 32639 ≡ n / 256 % 128 + 256 * (n / 256 / 256 % 128) = groups_two (n / 256) in
    let low : bit_and (n % 256) 127 ≡ n % 256 % 128 = and_mask (n % 256) 7 in
    ap (λ m. bit_and m 8355711) parts ∙ omega (arith, block, high, low)

-- the groups put together
abbrev pub joined : ℕ → ℕ
joined t = (t + t % 32768 + 2 * (t % 128)) / 4

-- ---- the posting at the front of bytes

-- so many bytes at the front are the lowest ones of the word
abbrev pub Front : List ℕ → ℕ → ℕ → Type 0
Front s word n = (i : ℕ) → i < n → get_or s i 0 ≡ word / 256 ^ i % 256

-- a posting at the front, whose numbers are small
abbrev pub Small : List ℕ → ℕ → ℕ → ℕ → Type 0
Small s docid tf size = Begins s docid tf size × (docid < 2 ^ 21) × (tf < 128)

of_one : (s : List ℕ) (word docid tf : ℕ) → bit_and word 141834869276671 ≡ 68720002082 → 6 ≤ length s → Front s word 6 → docid ≡ joined (bit_and (word / 16777216) 127) → tf ≡ get_or s 5 0 → Small s docid tf 6
of_one s word docid tf is long front gap_is tf_is =
    let head = known word 141834869276671 68720002082 24 0 525346 is refl refl (omega arith) in
    let top = known word 141834869276671 68720002082 1 31 0 is refl refl (omega arith) in
    let tag = known word 141834869276671 68720002082 8 32 16 is refl refl (omega arith) in
    let low = known word 141834869276671 68720002082 1 47 0 is refl refl (omega arith) in
    let gap : docid ≡ get_or s 3 0 = omega (arith, gap_is, and_mask (word / 16777216) 7, front 3 (omega arith), top) in
    let tf_low : get_or s 5 0 < 128 = omega (arith, front 5 (omega arith), low) in
    let small : get_or s 3 0 < 128 = omega (arith, front 3 (omega arith), top) in (
      narrow s docid tf long (omega (arith, front 0 (omega arith), head)) (omega (arith, front 1 (omega arith), head)) (omega (arith, front 2 (omega arith), head)) small (omega (arith, front 4 (omega arith), tag)) tf_low gap tf_is,
      omega (arith, gap, small),
      omega (arith, tf_is, tf_low),
    )

of_two : (s : List ℕ) (word docid tf : ℕ) → bit_and word 36309724404121599 ≡ 17594334053666 → 7 ≤ length s → Front s word 7 → docid ≡ joined (bit_and (word / 16777216) 32639) → tf ≡ get_or s 6 0 → Small s docid tf 7
of_two s word docid tf is long front gap_is tf_is =
    let head = known word 36309724404121599 17594334053666 24 0 525602 is refl refl (omega arith) in
    let more = known word 36309724404121599 17594334053666 1 31 1 is refl refl (omega arith) in
    let top = known word 36309724404121599 17594334053666 1 39 0 is refl refl (omega arith) in
    let tag = known word 36309724404121599 17594334053666 8 40 16 is refl refl (omega arith) in
    let low = known word 36309724404121599 17594334053666 1 55 0 is refl refl (omega arith) in
    let high : 128 ≤ get_or s 3 0 = omega (arith, front 3 (omega arith), more) in
    let small : get_or s 4 0 < 128 = omega (arith, front 4 (omega arith), top) in
    let first : get_or s 3 0 % 128 ≡ word / 16777216 % 128 = omega (arith, front 3 (omega arith)) in
    let second : get_or s 4 0 ≡ word / 16777216 / 256 % 128 = omega (arith, front 4 (omega arith), small) in
    let gap : docid ≡ get_or s 3 0 % 128 + 128 * get_or s 4 0 = omega (arith, gap_is, groups_two (word / 16777216), first, second) in
    let tf_low : get_or s 6 0 < 128 = omega (arith, front 6 (omega arith), low) in (
      wide s docid tf long (omega (arith, front 0 (omega arith), head)) (omega (arith, front 1 (omega arith), head)) (omega (arith, front 2 (omega arith), head)) high small (omega (arith, front 5 (omega arith), tag)) tf_low gap tf_is,
      omega (arith, gap, small),
      omega (arith, tf_is, tf_low),
    )

of_three : (s : List ℕ) (word docid tf : ℕ) → bit_and word 9295289445324423167 ≡ 4504151531193890 → 8 ≤ length s → Front s word 8 → docid ≡ joined (bit_and (word / 16777216) 8355711) → tf ≡ get_or s 7 0 → Small s docid tf 8
of_three s word docid tf is long front gap_is tf_is =
    let head = known word 9295289445324423167 4504151531193890 24 0 525858 is refl refl (omega arith) in
    let more = known word 9295289445324423167 4504151531193890 1 31 1 is refl refl (omega arith) in
    let most = known word 9295289445324423167 4504151531193890 1 39 1 is refl refl (omega arith) in
    let top = known word 9295289445324423167 4504151531193890 1 47 0 is refl refl (omega arith) in
    let tag = known word 9295289445324423167 4504151531193890 8 48 16 is refl refl (omega arith) in
    let low = known word 9295289445324423167 4504151531193890 1 63 0 is refl refl (omega arith) in
    let high : 128 ≤ get_or s 3 0 = omega (arith, front 3 (omega arith), more) in
    let higher : 128 ≤ get_or s 4 0 = omega (arith, front 4 (omega arith), most) in
    let small : get_or s 5 0 < 128 = omega (arith, front 5 (omega arith), top) in
    let first : get_or s 3 0 % 128 ≡ word / 16777216 % 128 = omega (arith, front 3 (omega arith)) in
    let second : get_or s 4 0 % 128 ≡ word / 16777216 / 256 % 128 = omega (arith, front 4 (omega arith)) in
    let third : get_or s 5 0 ≡ word / 16777216 / 65536 % 128 = omega (arith, front 5 (omega arith), small) in
    let gap : docid ≡ get_or s 3 0 % 128 + 128 * (get_or s 4 0 % 128 + 128 * get_or s 5 0) = omega (arith, gap_is, groups_three (word / 16777216), first, second, third) in
    let tf_low : get_or s 7 0 < 128 = omega (arith, front 7 (omega arith), low) in (
      wider s docid tf long (omega (arith, front 0 (omega arith), head)) (omega (arith, front 1 (omega arith), head)) (omega (arith, front 2 (omega arith), head)) high higher small (omega (arith, front 6 (omega arith), tag)) tf_low gap tf_is,
      omega (arith, gap, small),
      omega (arith, tf_is, tf_low),
    )

abbrev table : List ℕ
table = 141834869276671 ∷ 36309724404121599 ∷ 9295289445324423167 ∷ 0 ∷ 68720002082 ∷ 17594334053666 ∷ 4504151531193890 ∷ 1 ∷ 127 ∷ 32639 ∷ 8355711 ∷ 0 ∷ []

pub at_most_two : (word more : ℕ) → more < 4 → bit_and word (get_or table more 0) ≡ get_or table (more + 4) 0 → more ≤ 2
at_most_two word zero few is = omega arith
at_most_two word (suc zero) few is = omega arith
at_most_two word (suc (suc zero)) few is = omega arith
at_most_two word (suc (suc (suc zero))) few is = absurd (omega (arith, is, and_zero_r word))
at_most_two word (suc (suc (suc (suc more)))) few is = absurd (omega (arith, few))

pub usual : (s : List ℕ) (word more docid tf : ℕ) → more ≤ 2 → bit_and word (get_or table more 0) ≡ get_or table (more + 4) 0 → more + 6 ≤ length s → Front s word (more + 6) → docid ≡ joined (bit_and (word / 16777216) (get_or table (more + 8) 0)) → tf ≡ get_or s (more + 5) 0 → Small s docid tf (more + 6)
usual s word zero docid tf few is long front gap_is tf_is = of_one s word docid tf is long front gap_is tf_is
usual s word (suc zero) docid tf few is long front gap_is tf_is = of_two s word docid tf is long front gap_is tf_is
usual s word (suc (suc zero)) docid tf few is long front gap_is tf_is = of_three s word docid tf is long front gap_is tf_is
usual s word (suc (suc (suc more))) docid tf few is long front gap_is tf_is = absurd (omega (arith, few))
