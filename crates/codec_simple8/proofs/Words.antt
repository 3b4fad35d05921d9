-- A word, and what is read of it.
use Rattle.shared_lemmas.proofs.Common.{◌≡◌, ℕ, zero, suc, ◌/◌, ◌%◌, ◌^◌, ◌<◌, ◌≤◌, true, List, [], ◌∷◌, ◌++◌, length, take, drop, refl, sym, ap, subst, ◌∙◌, arith, nat_lt, nat_le, w64, from_le_bytes, to_le_bytes, list_all, flat_map, number_l, digits_l, nat_tests, length-take-le, length-drop}
use Rattle.shared_lemmas.proofs.Common.{take_at, drop_at, from_le_bytes-to_le_bytes_8, pow-le-pow_right, and_parts}
use Rattle.std.proofs.Common.{length-append}
use Rattle.codec_simple8.specs.Simple8.{count_of, width_of, takes, selector_of, word_of, gaps_in, fields, words_within, spelled_words, word_in}
use Rattle.codec_simple8.proofs.Digits.{Below, digits_number, number_below, first_digit, later_digits, power_of_power}
use Rattle.codec_simple8.proofs.Selectors.{selector_small, selector_takes}
use Rattle.codec_simple8.proofs.Tables.{bits_most, count_some}

-- ---- the word of a selector that takes the gaps

pub takes_enough : (s : ℕ) (gaps : List ℕ) → takes s gaps ≡ true → count_of s ≤ length gaps
takes_enough s gaps taken =
    let t = (and_parts (nat_le (count_of s) (length gaps)) (list_all (λ gap. nat_lt gap (2 ^ width_of s)) (take (count_of s) gaps)) taken).0 in grind (arith, nat_tests)

pub takes_narrow : (s : ℕ) (gaps : List ℕ) → takes s gaps ≡ true → Below (2 ^ width_of s) (take (count_of s) gaps)
takes_narrow s gaps taken = (and_parts (nat_le (count_of s) (length gaps)) (list_all (λ gap. nat_lt gap (2 ^ width_of s)) (take (count_of s) gaps)) taken).1

pub word_low : (s : ℕ) (gaps : List ℕ) → s < 16 → word_of s gaps % 16 ≡ s
unfolding word_of
word_low s gaps small = first_digit 16 s (number_l (2 ^ width_of s) (take (count_of s) gaps)) small

pub word_high : (s : ℕ) (gaps : List ℕ) → s < 16 → word_of s gaps / 16 ≡ number_l (2 ^ width_of s) (take (count_of s) gaps)
unfolding word_of
word_high s gaps small = later_digits 16 s (number_l (2 ^ width_of s) (take (count_of s) gaps)) small

pub word_gaps : (s : ℕ) (gaps : List ℕ) → s < 16 → takes s gaps ≡ true → gaps_in (word_of s gaps) ≡ take (count_of s) gaps
unfolding gaps_in fields
word_gaps s gaps small taken =
    let long = length-take-le (count_of s) gaps (takes_enough s gaps taken) in
    rw (word_low s gaps small, word_high s gaps small) (
    ap (λ n. digits_l (2 ^ width_of s) n (number_l (2 ^ width_of s) (take (count_of s) gaps))) (sym long)
    ∙ digits_number (2 ^ width_of s) (take (count_of s) gaps) (takes_narrow s gaps taken)
    )

pub values_fit : (s : ℕ) (gaps : List ℕ) → s < 16 → takes s gaps ≡ true → number_l (2 ^ width_of s) (take (count_of s) gaps) < 2 ^ 60
values_fit s gaps small taken =
    let long = length-take-le (count_of s) gaps (takes_enough s gaps taken) in
    let fits = number_below (2 ^ width_of s) (take (count_of s) gaps) (takes_narrow s gaps taken) in
    let some : 0 < 2 = omega arith in
    omega (arith, fits, ap (λ n. (2 ^ width_of s) ^ n) long ∙ power_of_power 2 (width_of s) (count_of s), pow-le-pow_right some (bits_most s small))

pub word_fits : (s : ℕ) (gaps : List ℕ) → s < 16 → takes s gaps ≡ true → word_of s gaps < 2 ^ 64
unfolding word_of
word_fits s gaps small taken = omega (arith, values_fit s gaps small taken)

-- ---- its bytes

pub word_length : (word : ℕ) → length (to_le_bytes w64 word) ≡ 8
word_length word = refl

pub word_read : (word : ℕ) (rest : List ℕ) → word < 2 ^ 64 → word_in (to_le_bytes w64 word ++ rest) ≡ word
unfolding word_in
word_read word rest fits = ap (from_le_bytes w64) (take_at (to_le_bytes w64 word) rest 8 (word_length word)) ∙ from_le_bytes-to_le_bytes_8 word fits

pub word_rest : (word : ℕ) (rest : List ℕ) → drop 8 (to_le_bytes w64 word ++ rest) ≡ rest
word_rest word rest = drop_at (to_le_bytes w64 word) rest 8 (word_length word)

-- ---- the words of gaps

pub no_words : spelled_words [] ≡ []
unfolding spelled_words
no_words = refl

drop_shorter : (c n : ℕ) (gap : ℕ) (gaps : List ℕ) → 1 ≤ c → length gaps ≤ n → length (drop c (gap ∷ gaps)) ≤ n
drop_shorter c n gap gaps some few = omega (arith, length-drop c (gap ∷ gaps))

-- more words than there are gaps change nothing
enough : (n m : ℕ) (gaps : List ℕ) → length gaps ≤ n → length gaps ≤ m → words_within n gaps ≡ words_within m gaps
enough zero zero gaps few few' = refl
enough zero (suc m) [] few few' = refl
enough zero (suc m) (gap ∷ gaps) few few' = absurd (omega arith)
enough (suc n) zero [] few few' = refl
enough (suc n) zero (gap ∷ gaps) few few' = absurd (omega arith)
enough (suc n) (suc m) [] few few' = refl
enough (suc n) (suc m) (gap ∷ gaps) few few' =
    let some = count_some (selector_of (gap ∷ gaps)) (selector_small (gap ∷ gaps)) in
    ap (λ (words : List ℕ). word_of (selector_of (gap ∷ gaps)) (gap ∷ gaps) ∷ words)
    (enough n m (drop (count_of (selector_of (gap ∷ gaps))) (gap ∷ gaps))
    (drop_shorter (count_of (selector_of (gap ∷ gaps))) n gap gaps some (omega arith))
    (drop_shorter (count_of (selector_of (gap ∷ gaps))) m gap gaps some (omega arith)))

pub one_word : (gaps : List ℕ) → 0 < length gaps → spelled_words gaps ≡ to_le_bytes w64 (word_of (selector_of gaps) gaps) ++ spelled_words (drop (count_of (selector_of gaps)) gaps)
unfolding spelled_words
one_word [] some = absurd (omega arith)
one_word (gap ∷ gaps) some =
    let one = count_some (selector_of (gap ∷ gaps)) (selector_small (gap ∷ gaps)) in
    ap (λ (words : List ℕ). to_le_bytes w64 (word_of (selector_of (gap ∷ gaps)) (gap ∷ gaps)) ++ flat_map (to_le_bytes w64) words)
    (enough (length gaps) (length (drop (count_of (selector_of (gap ∷ gaps))) (gap ∷ gaps))) (drop (count_of (selector_of (gap ∷ gaps))) (gap ∷ gaps))
    (drop_shorter (count_of (selector_of (gap ∷ gaps))) (length gaps) gap gaps one (omega arith)) (omega arith))

-- ---- the word at the front of bytes that spell gaps

pub record FrontWord (bytes gaps : List ℕ) (word : ℕ) : Type 0 where
  pub few : count_of (word % 16) ≤ length gaps
  pub values : gaps_in word ≡ take (count_of (word % 16)) gaps
  pub rest : drop 8 bytes ≡ spelled_words (drop (count_of (word % 16)) gaps)
  pub long : 8 ≤ length bytes

pub front_word : (bytes gaps : List ℕ) → bytes ≡ spelled_words gaps → 0 < length gaps → Below (2 ^ 26) gaps → FrontWord bytes gaps (word_in bytes)
front_word bytes gaps is some below =
    let small = selector_small gaps in
    let taken = selector_takes gaps some below in
    let rest = spelled_words (drop (count_of (selector_of gaps)) gaps) in
    let parts : bytes ≡ to_le_bytes w64 (word_of (selector_of gaps) gaps) ++ spelled_words (drop (count_of (selector_of gaps)) gaps) = is ∙ one_word gaps some in
    let fits = word_fits (selector_of gaps) gaps small taken in
    let word : word_in bytes ≡ word_of (selector_of gaps) gaps = ap word_in parts ∙ word_read (word_of (selector_of gaps) gaps) (spelled_words (drop (count_of (selector_of gaps)) gaps)) fits in
    let long = ap length parts ∙ length-append (to_le_bytes w64 (word_of (selector_of gaps) gaps)) (spelled_words (drop (count_of (selector_of gaps)) gaps)) in
    subst (FrontWord bytes gaps) (sym word) (record {
      few = rw (word_low (selector_of gaps) gaps small) (takes_enough (selector_of gaps) gaps taken);
      values = rw (word_low (selector_of gaps) gaps small) (word_gaps (selector_of gaps) gaps small taken);
      rest = rw (word_low (selector_of gaps) gaps small) (ap (drop 8) parts ∙ word_rest (word_of (selector_of gaps) gaps) (spelled_words (drop (count_of (selector_of gaps)) gaps)));
      long = omega (arith, long);
    })
