-- Bytes that are whole words, and whether their gaps are spelled with these words.
use Rattle.shared_lemmas.proofs.Common.{◌≡◌, ℕ, zero, suc, ◌+◌, ◌*◌, ◌-◌, ◌/◌, ◌%◌, ◌^◌, ◌<◌, ◌≤◌, Bool, true, false, List, [], ◌∷◌, ◌++◌, length, take, drop, get_or, ◌⊎◌, ◌≢◌, inl, inr, refl, sym, ap, subst, ◌∙◌, append-nil, arith, All, nat_eq, nat_lt, nat_le, not, ◌&&◌, ◌||◌, w64, to_le_bytes}
use Rattle.shared_lemmas.proofs.Common.{list_all, number_l, cases_eq, cases_lt, and_parts, nat_tests, length-drop, length-take-le, length-take, take_at, drop_at, take-append-drop, get_or-take, get_or_past, take-take, take_all, take-append-le, nil_from_length, list_all-append, take-append-add}
use Rattle.shared_lemmas.proofs.Common.{All-drop, le_bytes_8, pow_pos, bytes_eq-Decides, mod-lt, mod-add-div, pow-le-pow_right, or-true}
use Rattle.std.proofs.Common.{length-append}
use Rattle.std.specs.Str.{bytes_eq}
use Rattle.codec_simple8.specs.Simple8.{count_of, width_of, takes, selector_of, word_of, fields, gaps_in, word_in, spelled_words}
use Rattle.codec_simple8.specs.Private.Words.{words_gaps, bytes_gaps, AreWords, spells_them}
use Rattle.codec_simple8.proofs.Digits.{Below, Below-wider, number_below, digits_below, number_digits, power_of_power}
use Rattle.codec_simple8.proofs.Fields.{length-fields, nothing_above}
use Rattle.codec_simple8.proofs.GapLists.{below_from_All}
use Rattle.codec_simple8.proofs.Selectors.{Either, one_of, selector_is, selector_small, selector_takes, none_lesser}
use Rattle.codec_simple8.proofs.Tables.{count_falls, count_some, width_rises}
use Rattle.codec_simple8.proofs.Trying.{Below-take}
use Rattle.codec_simple8.proofs.Words.{takes_enough, takes_narrow, word_low, word_high, word_fits, word_read, word_rest, one_word, no_words}

-- ---- whole words

pub length-gaps_in : (word : ℕ) → length (gaps_in word) ≡ count_of (word % 16)
unfolding gaps_in
length-gaps_in word = length-fields (width_of (word % 16)) (count_of (word % 16)) (word / 16)

pub bytes_more : (bytes : List ℕ) → 8 ≤ length bytes → bytes_gaps bytes ≡ gaps_in (word_in bytes) ++ bytes_gaps (drop 8 bytes)
unfolding bytes_gaps
bytes_more bytes long =
    let less = length-drop 8 bytes in
    let one : length bytes / 8 ≡ suc (length (drop 8 bytes) / 8) = omega (arith, less) in
    ap (λ n. words_gaps n bytes) one

pub bytes_none : (bytes : List ℕ) → length bytes < 8 → bytes_gaps bytes ≡ []
unfolding bytes_gaps
bytes_none bytes short = let none : length bytes / 8 ≡ 0 = omega arith in ap (λ n. words_gaps n bytes) none

-- a word, and the words behind it
pub record OneWord (bytes : List ℕ) (left : ℕ) : Type 0 where
  pub long : 8 ≤ length bytes
  pub few : count_of (word_in bytes % 16) ≤ left
  pub parts : bytes_gaps bytes ≡ gaps_in (word_in bytes) ++ bytes_gaps (drop 8 bytes)
  pub next : AreWords (drop 8 bytes) (left - count_of (word_in bytes % 16))

pub words_one : (bytes : List ℕ) (left : ℕ) → AreWords bytes left → 0 < left → OneWord bytes left
words_one bytes left are some =
    let long : 8 ≤ length bytes = at_least (cases_lt (length bytes) 8) in
    let parts = bytes_more bytes long in
    let count = ap length parts ∙ length-append (gaps_in (word_in bytes)) (bytes_gaps (drop 8 bytes)) in
    let own = length-gaps_in (word_in bytes) in
    record {
      long = long;
      few = omega (arith, are.count, count, own);
      parts = parts;
      next = record {
        whole = omega (arith, are.whole, length-drop 8 bytes, long);
        count = omega (arith, are.count, count, own);
        below = subst (All (λ gap. gap < 2 ^ 26)) (ap (drop (length (gaps_in (word_in bytes)))) parts ∙ drop_at (gaps_in (word_in bytes)) (bytes_gaps (drop 8 bytes)) (length (gaps_in (word_in bytes))) refl)
            (All-drop (λ gap. gap < 2 ^ 26) (length (gaps_in (word_in bytes))) (bytes_gaps bytes) are.below);
      };
    }
  where
    at_least : (length bytes < 8) ⊎ (8 ≤ length bytes) → 8 ≤ length bytes
    at_least (inl short) = absurd (omega (arith, ap length (bytes_none bytes short), are.count, some))
    at_least (inr long) = long

-- ---- a greater selector takes what a lesser one does

takes_next : (s : ℕ) (gaps : List ℕ) → s < 15 → takes s gaps ≡ true → takes (s + 1) gaps ≡ true
takes_next s gaps less taken =
    let enough = takes_enough s gaps taken in
    let fewer = count_falls s less in
    let t : nat_le (count_of (s + 1)) (length gaps) ≡ true = grind (arith, nat_tests) in
    let two : 0 < 2 = omega arith in
    let wider = Below-wider (2 ^ width_of s) (2 ^ width_of (s + 1)) (take (count_of s) gaps) (pow-le-pow_right two (width_rises s less)) (takes_narrow s gaps taken) in
    let narrow : Below (2 ^ width_of (s + 1)) (take (count_of (s + 1)) gaps) =
    subst (Below (2 ^ width_of (s + 1))) (take-take (count_of (s + 1)) (count_of s) gaps fewer) (Below-take (2 ^ width_of (s + 1)) (count_of (s + 1)) (take (count_of s) gaps) wider) in
    rw (t, narrow) refl

takes_later : (n s : ℕ) (gaps : List ℕ) → s + n < 16 → takes s gaps ≡ true → takes (s + n) gaps ≡ true
takes_later zero s gaps less taken = let e : s + 0 ≡ s = omega arith in rw e taken
takes_later (suc n) s gaps less taken =
    let e : s + suc n ≡ s + n + 1 = omega arith in
    rw e (takes_next (s + n) gaps (omega arith) (takes_later n s gaps (omega arith) taken))

none_before : (s : ℕ) (gaps : List ℕ) → s < 16 → takes (s - 1) gaps ≡ false → (r : ℕ) → r < s → takes r gaps ≡ false
none_before s gaps small fails r less = elim (one_of (takes r gaps)) [
  | inl taken ↦
      let last : r + (s - 1 - r) ≡ s - 1 = omega arith in
      let there : takes (s - 1) gaps ≡ true = subst (λ t. takes t gaps ≡ true) last (takes_later (s - 1 - r) r gaps (omega arith) taken) in
      absurd cc
  | inr none ↦ none
]

-- ---- the word that gaps are spelled with

-- what the test says
record Spells (word : ℕ) (gaps : List ℕ) : Type 0 where
  used : word / 16 < 2 ^ (width_of (word % 16) * count_of (word % 16))
  least : (word % 16 ≡ 0) ⊎ (takes (word % 16 - 1) gaps ≡ false)

spells : (word : ℕ) (gaps : List ℕ) → spells_them word gaps ≡ true → Spells word gaps
unfolding spells_them
spells word gaps is =
    let t = and_parts (nat_lt (word / 16) (2 ^ (width_of (word % 16) * count_of (word % 16)))) (nat_eq (word % 16) 0 || not (takes (word % 16 - 1) gaps)) is in
    let low = t.0 in
    record { used = grind (arith, nat_tests); least = go (nat_eq (word % 16) 0) refl (takes (word % 16 - 1) gaps) refl t.1 }
  where
    go : (z : Bool) → nat_eq (word % 16) 0 ≡ z → (t : Bool) → takes (word % 16 - 1) gaps ≡ t → (z || not t) ≡ true → (word % 16 ≡ 0) ⊎ (takes (word % 16 - 1) gaps ≡ false)
    go true zero_is t is all = inl (grind (arith, nat_tests))
    go false zero_is true is all = absurd cc
    go false zero_is false is all = inr is

spells_again : (word : ℕ) (gaps : List ℕ) → Spells word gaps → spells_them word gaps ≡ true
unfolding spells_them
spells_again word gaps sp = elim sp.least [
  | inl first ↦
      let used = sp.used in
      let t : nat_lt (word / 16) (2 ^ (width_of (word % 16) * count_of (word % 16))) ≡ true = grind (arith, nat_tests) in
      let u : nat_eq (word % 16) 0 ≡ true = grind (arith, nat_tests) in
      rw (t, u) refl
  | inr fails ↦
      let used = sp.used in
      let t : nat_lt (word / 16) (2 ^ (width_of (word % 16) * count_of (word % 16))) ≡ true = grind (arith, nat_tests) in
      rw (t, fails) (or-true (nat_eq (word % 16) 0))
]

values_used : (s : ℕ) (gaps : List ℕ) → s < 16 → takes s gaps ≡ true → word_of s gaps / 16 < 2 ^ (width_of s * count_of s)
values_used s gaps small taken =
    let long = length-take-le (count_of s) gaps (takes_enough s gaps taken) in
    let fits = number_below (2 ^ width_of s) (take (count_of s) gaps) (takes_narrow s gaps taken) in
    omega (arith, fits, word_high s gaps small, ap (λ n. (2 ^ width_of s) ^ n) long ∙ power_of_power 2 (width_of s) (count_of s))

-- gaps are spelled with the first word of their spelling
pub first_spells : (gaps : List ℕ) → 0 < length gaps → Below (2 ^ 26) gaps → spells_them (word_of (selector_of gaps) gaps) gaps ≡ true
first_spells gaps some below =
    let small = selector_small gaps in
    let taken = selector_takes gaps some below in
    spells_again (word_of (selector_of gaps) gaps) gaps (record {
      used = rw (word_low (selector_of gaps) gaps small) (values_used (selector_of gaps) gaps small taken);
      least = rw (word_low (selector_of gaps) gaps small) (go (cases_eq (selector_of gaps) 0));
    })
  where
    go : (selector_of gaps ≡ 0) ⊎ (selector_of gaps ≢ 0) → (selector_of gaps ≡ 0) ⊎ (takes (selector_of gaps - 1) gaps ≡ false)
    go (inl first) = inl first
    go (inr later) = inr (none_lesser gaps (selector_of gaps - 1) (omega (arith, later)))

-- and the word that spells them is that first word
pub spells_first : (word : ℕ) (gaps more : List ℕ) → gaps ≡ gaps_in word ++ more → spells_them word gaps ≡ true → (selector_of gaps ≡ word % 16) × (word_of (word % 16) gaps ≡ word)
unfolding word_of gaps_in fields
spells_first word gaps more parts is =
    let sp = spells word gaps is in
    let small : word % 16 < 16 = mod-lt word (omega arith) in
    let own = length-gaps_in word in
    let own' : take (count_of (word % 16)) gaps ≡ gaps_in word = ap (take (count_of (word % 16))) parts ∙ take_at (gaps_in word) more (count_of (word % 16)) own in
    let long = ap length parts ∙ length-append (gaps_in word) more in
    let enough : nat_le (count_of (word % 16)) (length gaps) ≡ true = (let le : count_of (word % 16) ≤ length gaps = omega (arith, long, own) in grind (arith, nat_tests)) in
    let narrow : Below (2 ^ width_of (word % 16)) (take (count_of (word % 16)) gaps) = subst (Below (2 ^ width_of (word % 16))) (sym own') (digits_below (2 ^ width_of (word % 16)) (count_of (word % 16)) (word / 16) (pow_pos (width_of (word % 16)))) in
    let taken : takes (word % 16) gaps ≡ true = rw (enough, narrow) refl in
    let fits : word / 16 < (2 ^ width_of (word % 16)) ^ count_of (word % 16) = omega (arith, sp.used, power_of_power 2 (width_of (word % 16)) (count_of (word % 16))) in
    let value = ap (number_l (2 ^ width_of (word % 16))) own' ∙ number_digits (2 ^ width_of (word % 16)) (count_of (word % 16)) (word / 16) (pow_pos (width_of (word % 16))) fits in
    (selector_is (word % 16) gaps taken small (none sp.least), omega (arith, value, mod-add-div word 16))
  where
    none : (word % 16 ≡ 0) ⊎ (takes (word % 16 - 1) gaps ≡ false) → (r : ℕ) → r < word % 16 → takes r gaps ≡ false
    none (inl first) r less = absurd (omega (arith, first, less))
    none (inr fails) r less = none_before (word % 16) gaps (mod-lt word (omega arith)) fails r less

-- the test, step by step
pub test_unused : (word : ℕ) (gaps : List ℕ) → (word / 16 / 2 ^ (width_of (word % 16) * count_of (word % 16)) ≡ 0 → ⊥) → false ≡ spells_them word gaps
unfolding spells_them
test_unused word gaps some =
    let t : nat_eq (word / 16 / 2 ^ (width_of (word % 16) * count_of (word % 16))) 0 ≡ false = grind (arith, nat_tests) in
    let u : nat_lt (word / 16) (2 ^ (width_of (word % 16) * count_of (word % 16))) ≡ false = sym (nothing_above (word / 16) (2 ^ (width_of (word % 16) * count_of (word % 16))) (pow_pos (width_of (word % 16) * count_of (word % 16)))) ∙ t in
    rw u refl

used_bits : (word : ℕ) → word / 16 / 2 ^ (width_of (word % 16) * count_of (word % 16)) ≡ 0 → nat_lt (word / 16) (2 ^ (width_of (word % 16) * count_of (word % 16))) ≡ true
used_bits word none =
    let t : nat_eq (word / 16 / 2 ^ (width_of (word % 16) * count_of (word % 16))) 0 ≡ true = grind (arith, nat_tests) in
    sym (nothing_above (word / 16) (2 ^ (width_of (word % 16) * count_of (word % 16))) (pow_pos (width_of (word % 16) * count_of (word % 16)))) ∙ t

pub test_first : (word : ℕ) (gaps : List ℕ) → word / 16 / 2 ^ (width_of (word % 16) * count_of (word % 16)) ≡ 0 → word % 16 ≡ 0 → true ≡ spells_them word gaps
unfolding spells_them
test_first word gaps none first = let u : nat_eq (word % 16) 0 ≡ true = grind (arith, nat_tests) in rw (used_bits word none, u) refl

pub test_later : (word : ℕ) (gaps : List ℕ) (taken : Bool) → word / 16 / 2 ^ (width_of (word % 16) * count_of (word % 16)) ≡ 0 → (word % 16 ≡ 0 → ⊥) → takes (word % 16 - 1) gaps ≡ taken → not taken ≡ spells_them word gaps
unfolding spells_them
test_later word gaps taken none later is = let u : nat_eq (word % 16) 0 ≡ false = grind (arith, nat_tests) in rw (used_bits word none, u, is) refl

-- ---- bytes that are a spelling

same_tests : (a b : Bool) → (a ≡ true → b ≡ true) → (b ≡ true → a ≡ true) → a ≡ b
same_tests true true there back = refl
same_tests true false there back = let t = there refl in absurd cc
same_tests false true there back = let t = back refl in absurd cc
same_tests false false there back = refl

-- a spelling of gaps begins with their first word
spelled_first : (bytes gaps : List ℕ) → bytes ≡ spelled_words gaps → 0 < length gaps → Below (2 ^ 26) gaps
    → (word_in bytes ≡ word_of (selector_of gaps) gaps) × (drop 8 bytes ≡ spelled_words (drop (count_of (selector_of gaps)) gaps))
spelled_first bytes gaps is some below =
    let parts = is ∙ one_word gaps some in
    let fits = word_fits (selector_of gaps) gaps (selector_small gaps) (selector_takes gaps some below) in (
      ap word_in parts ∙ word_read (word_of (selector_of gaps) gaps) (spelled_words (drop (count_of (selector_of gaps)) gaps)) fits,
      ap (drop 8) parts ∙ word_rest (word_of (selector_of gaps) gaps) (spelled_words (drop (count_of (selector_of gaps)) gaps)),
    )

-- the bytes of the word at the front
word_bytes : (bytes : List ℕ) → 8 ≤ length bytes → ((i : ℕ) → get_or bytes i 0 < 256) → to_le_bytes w64 (word_in bytes) ≡ take 8 bytes
unfolding word_in
word_bytes bytes long small = le_bytes_8 (take 8 bytes) (word_in bytes) (length-take-le 8 bytes long) (λ i. low i (cases_lt i 8)) refl
  where
    low : (i : ℕ) → (i < 8) ⊎ (8 ≤ i) → get_or (take 8 bytes) i 0 < 256
    low i (inl inside) = rw (get_or-take 8 bytes i 0 inside) (small i)
    low i (inr outside) = rw (get_or_past (take 8 bytes) i 0 (omega (arith, length-take 8 bytes, outside))) (omega arith)

pub spelling_fails : (bytes : List ℕ) (left : ℕ) → AreWords bytes left → 0 < left → spells_them (word_in bytes) (bytes_gaps bytes) ≡ false → false ≡ bytes_eq bytes (spelled_words (bytes_gaps bytes))
spelling_fails bytes left are some fails = go (one_of (bytes_eq bytes (spelled_words (bytes_gaps bytes))))
  where
    go : Either (bytes_eq bytes (spelled_words (bytes_gaps bytes))) → false ≡ bytes_eq bytes (spelled_words (bytes_gaps bytes))
    go (inl same) =
        let is : bytes ≡ spelled_words (bytes_gaps bytes) = (bytes_eq-Decides bytes (spelled_words (bytes_gaps bytes))).0 same in
        let below = below_from_All (2 ^ 26) (2 ^ 26) (bytes_gaps bytes) (omega arith) are.below in
        let many : 0 < length (bytes_gaps bytes) = omega (arith, are.count, some) in
        let first = (spelled_first bytes (bytes_gaps bytes) is many below).0 in
        let taken : spells_them (word_in bytes) (bytes_gaps bytes) ≡ true = ap (λ word. spells_them word (bytes_gaps bytes)) first ∙ first_spells (bytes_gaps bytes) many below in
        absurd cc
    go (inr apart) = sym apart

pub spelling_one : (bytes : List ℕ) (left : ℕ) → AreWords bytes left → 0 < left → ((i : ℕ) → get_or bytes i 0 < 256) → spells_them (word_in bytes) (bytes_gaps bytes) ≡ true
    → bytes_eq bytes (spelled_words (bytes_gaps bytes)) ≡ bytes_eq (drop 8 bytes) (spelled_words (bytes_gaps (drop 8 bytes)))
spelling_one bytes left are some small holds =
    let one = words_one bytes left are some in
    let first = spells_first (word_in bytes) (bytes_gaps bytes) (bytes_gaps (drop 8 bytes)) one.parts holds in
    let own = length-gaps_in (word_in bytes) in
    let rest : drop (count_of (selector_of (bytes_gaps bytes))) (bytes_gaps bytes) ≡ bytes_gaps (drop 8 bytes) =
    ap (λ s. drop (count_of s) (bytes_gaps bytes)) first.0 ∙ ap (drop (count_of (word_in bytes % 16))) one.parts ∙ drop_at (gaps_in (word_in bytes)) (bytes_gaps (drop 8 bytes)) (count_of (word_in bytes % 16)) own in
    let many : 0 < length (bytes_gaps bytes) = omega (arith, are.count, some) in
    let below = below_from_All (2 ^ 26) (2 ^ 26) (bytes_gaps bytes) (omega arith) are.below in
    let word : word_of (selector_of (bytes_gaps bytes)) (bytes_gaps bytes) ≡ word_in bytes = ap (λ s. word_of s (bytes_gaps bytes)) first.0 ∙ first.1 in
    let spelled : spelled_words (bytes_gaps bytes) ≡ take 8 bytes ++ spelled_words (bytes_gaps (drop 8 bytes)) =
    one_word (bytes_gaps bytes) many ∙ ap (λ (gaps : List ℕ). to_le_bytes w64 (word_of (selector_of (bytes_gaps bytes)) (bytes_gaps bytes)) ++ spelled_words gaps) rest
    ∙ ap (λ (front : List ℕ). front ++ spelled_words (bytes_gaps (drop 8 bytes))) (ap (to_le_bytes w64) word ∙ word_bytes bytes one.long small) in
    same_tests (bytes_eq bytes (spelled_words (bytes_gaps bytes))) (bytes_eq (drop 8 bytes) (spelled_words (bytes_gaps (drop 8 bytes))))
    (λ same. (bytes_eq-Decides (drop 8 bytes) (spelled_words (bytes_gaps (drop 8 bytes)))).1
    ((spelled_first bytes (bytes_gaps bytes) ((bytes_eq-Decides bytes (spelled_words (bytes_gaps bytes))).0 same) many below).1 ∙ ap spelled_words rest))
    (λ same. (bytes_eq-Decides bytes (spelled_words (bytes_gaps bytes))).1
    (sym (take-append-drop 8 bytes) ∙ ap (λ (back : List ℕ). take 8 bytes ++ back) ((bytes_eq-Decides (drop 8 bytes) (spelled_words (bytes_gaps (drop 8 bytes)))).0 same) ∙ sym spelled))

-- where no gap is left, no byte is
words_end : (bytes : List ℕ) → AreWords bytes 0 → bytes ≡ []
words_end bytes are = elim (cases_lt (length bytes) 8) [
  | inl short ↦ nil_from_length bytes (omega (arith, short, are.whole))
  | inr long ↦
      let count = ap length (bytes_more bytes long) ∙ length-append (gaps_in (word_in bytes)) (bytes_gaps (drop 8 bytes)) in
      absurd (omega (arith, count, are.count, length-gaps_in (word_in bytes), count_some (word_in bytes % 16) (mod-lt (word_in bytes) (omega arith))))
]

pub spelling_end : (bytes : List ℕ) → AreWords bytes 0 → true ≡ bytes_eq bytes (spelled_words (bytes_gaps bytes))
spelling_end bytes are =
    let none = words_end bytes are in
    sym (ap (λ (bs : List ℕ). bytes_eq bs (spelled_words (bytes_gaps bs))) none ∙ ap (bytes_eq []) (ap spelled_words (bytes_none [] (omega arith)) ∙ no_words))

-- ---- the next gaps in part

fields_first : (w n c x : ℕ) → n ≤ c → fields w n x ≡ take n (fields w c x)
unfolding fields
fields_first w zero c x few = refl
fields_first w (suc n) zero x few = absurd (omega arith)
fields_first w (suc n) (suc c) x few = ap (λ (rest : List ℕ). (x % 2 ^ w) ∷ rest) (fields_first w n c (x / 2 ^ w) (omega arith))

take_parts : (n left c : ℕ) (own more : List ℕ) → length own ≡ c → (n ≡ c) ⊎ (n ≡ left) → n ≤ c → n ≤ left → take left (own ++ more) ≡ take n own ++ take (left - n) more
take_parts n left c own more long (inl all) few within =
    let e : left ≡ length own + (left - n) = omega (arith, long, all, within) in
    ap (λ k. take k (own ++ more)) e ∙ take-append-add own more (left - n) ∙ ap (λ (front : List ℕ). front ++ take (left - n) more) (sym (take_all n own (omega (arith, long, all))))
take_parts n left c own more long (inr part) few within =
    let none : left - n ≡ 0 = omega (arith, part) in
    ap (λ k. take k (own ++ more)) (sym part) ∙ take-append-le n own more (omega (arith, few, long)) ∙ sym (append-nil (take n own)) ∙ ap (λ k. take n own ++ take k more) (sym none)

pub narrow_parts : (p : ℕ → Bool) (bytes : List ℕ) (left n : ℕ) → 8 ≤ length bytes → (n ≡ count_of (word_in bytes % 16)) ⊎ (n ≡ left) → n ≤ count_of (word_in bytes % 16) → n ≤ left
    → list_all p (take left (bytes_gaps bytes)) ≡ (list_all p (fields (width_of (word_in bytes % 16)) n (word_in bytes / 16)) && list_all p (take (left - n) (bytes_gaps (drop 8 bytes))))
unfolding gaps_in
narrow_parts p bytes left n long which few within =
    let own = length-gaps_in (word_in bytes) in
    ap (λ (gaps : List ℕ). list_all p (take left gaps)) (bytes_more bytes long)
    ∙ ap (list_all p) (take_parts n left (count_of (word_in bytes % 16)) (gaps_in (word_in bytes)) (bytes_gaps (drop 8 bytes)) own which few within)
    ∙ list_all-append p (take n (gaps_in (word_in bytes))) (take (left - n) (bytes_gaps (drop 8 bytes)))
    ∙ ap (λ (front : List ℕ). list_all p front && list_all p (take (left - n) (bytes_gaps (drop 8 bytes)))) (sym (fields_first (width_of (word_in bytes % 16)) n (count_of (word_in bytes % 16)) (word_in bytes / 16) few))
