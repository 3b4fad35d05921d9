-- A word in the making, and the words that are left.
use Rattle.shared_lemmas.proofs.Common.{◌≡◌, ℕ, zero, suc, ◌+◌, ◌*◌, ◌-◌, ◌%◌, ◌^◌, ◌<◌, ◌≤◌, true, List, [], ◌∷◌, ◌++◌, length, take, drop, get_or, bit_or, refl, sym, ap, subst, ◌∙◌, arith, w64, to_le_bytes, number_l, length-drop, length-append, drop-drop, drop_more, shl_whole, or_shifted}
use Rattle.shared_lemmas.proofs.Common.{mul-suc, mul-le-mul_left}
use Rattle.codec_simple8.specs.Simple8.{count_of, width_of, takes, selector_of, word_of, spelled_words}
use Rattle.codec_simple8.proofs.Digits.{Below, Below-head, Below-tail, number_below, power_of_power}
use Rattle.codec_simple8.proofs.GapLists.{Below-drop}
use Rattle.codec_simple8.proofs.Selectors.{selector_small}
use Rattle.codec_simple8.proofs.Tables.{count_some}
use Rattle.codec_simple8.proofs.Words.{values_fit, one_word, no_words}

-- ---- one value more of a word

value_at : (p i : ℕ) (xs : List ℕ) → Below p xs → i < length xs → get_or xs i 0 < p
value_at p i [] all within = absurd (omega arith)
value_at p zero (x ∷ xs) all within = Below-head p x xs all
value_at p (suc i) (x ∷ xs) all within = value_at p i xs (Below-tail p x xs all) (omega arith)

pub value_put : (w i : ℕ) (xs : List ℕ) → Below (2 ^ w) xs → w * length xs ≤ 60 → 0 < i → i ≤ length xs
    → bit_or (number_l (2 ^ w) (drop i xs) * 2 ^ w % 2 ^ 64) (get_or xs (i - 1) 0) ≡ number_l (2 ^ w) (drop (i - 1) xs)
value_put w i xs all short some within =
    let fits = number_below (2 ^ w) (drop i xs) (Below-drop (2 ^ w) i xs all) in
    let power = power_of_power 2 w (length (drop i xs)) in
    let below : number_l (2 ^ w) (drop i xs) < 2 ^ (w * length (drop i xs)) = omega (arith, fits, power) in
    let more : suc (length (drop i xs)) ≤ length xs = omega (arith, length-drop i xs) in
    let room : w * suc (length (drop i xs)) ≤ w * length xs = mul-le-mul_left w more in
    let room' : w * length (drop i xs) + w ≤ 64 = omega (arith, room, short, mul-suc w (length (drop i xs))) in
    let whole = shl_whole (number_l (2 ^ w) (drop i xs)) (w * length (drop i xs)) w 64 below room' in
    let small = value_at (2 ^ w) (i - 1) xs all (omega arith) in
    let joined = or_shifted (number_l (2 ^ w) (drop i xs)) w (get_or xs (i - 1) 0) small in
    let next = drop_more xs (i - 1) 0 (omega arith) in
    let place : i - 1 + 1 ≡ i = omega arith in
    let parts : drop (i - 1) xs ≡ get_or xs (i - 1) 0 ∷ drop i xs = next ∙ ap (λ j. get_or xs (i - 1) 0 ∷ drop j xs) place in
    ap (λ m. bit_or m (get_or xs (i - 1) 0)) whole ∙ joined ∙ turned (number_l (2 ^ w) (drop i xs)) (2 ^ w) (get_or xs (i - 1) 0) ∙ ap (number_l (2 ^ w)) (sym parts)
  where
    turned : (n p x : ℕ) → n * p + x ≡ x + p * n
    turned n p x = grind arith

pub selector_put : (s : ℕ) (gaps : List ℕ) → s < 16 → takes s gaps ≡ true
    → bit_or (number_l (2 ^ width_of s) (take (count_of s) gaps) * 16 % 2 ^ 64) s ≡ word_of s gaps
unfolding word_of
selector_put s gaps small taken =
    let fits = values_fit s gaps small taken in
    let whole = shl_whole (number_l (2 ^ width_of s) (take (count_of s) gaps)) 60 4 64 fits (omega arith) in
    let joined = or_shifted (number_l (2 ^ width_of s) (take (count_of s) gaps)) 4 s small in
    ap (λ m. bit_or m s) whole ∙ joined ∙ (let e : number_l (2 ^ width_of s) (take (count_of s) gaps) * 16 + s ≡ s + 16 * number_l (2 ^ width_of s) (take (count_of s) gaps) = omega arith in e)

-- ---- the words from a gap on

pub next_word : (gaps : List ℕ) (at selector : ℕ) → at < length gaps → selector ≡ selector_of (drop at gaps)
    → spelled_words (drop at gaps) ≡ to_le_bytes w64 (word_of selector (drop at gaps)) ++ spelled_words (drop (at + count_of selector) gaps)
next_word gaps at selector within is =
    let some : 0 < length (drop at gaps) = omega (arith, length-drop at gaps) in
    subst (λ s. spelled_words (drop at gaps) ≡ to_le_bytes w64 (word_of s (drop at gaps)) ++ spelled_words (drop (at + count_of s) gaps)) (sym is)
    (one_word (drop at gaps) some ∙ ap (λ (rest : List ℕ). to_le_bytes w64 (word_of (selector_of (drop at gaps)) (drop at gaps)) ++ spelled_words rest) (drop-drop (count_of (selector_of (drop at gaps))) at gaps))

pub next_length : (gaps : List ℕ) (at selector : ℕ) → at < length gaps → selector ≡ selector_of (drop at gaps)
    → length (spelled_words (drop at gaps)) ≡ 8 + length (spelled_words (drop (at + count_of selector) gaps))
next_length gaps at selector within is =
    ap length (next_word gaps at selector within is) ∙ length-append (to_le_bytes w64 (word_of selector (drop at gaps))) (spelled_words (drop (at + count_of selector) gaps))

-- a word more, while gaps are left
pub one_more : (gaps : List ℕ) (at : ℕ) → at < length gaps → 8 ≤ length (spelled_words (drop at gaps))
one_more gaps at within = omega (arith, next_length gaps at (selector_of (drop at gaps)) within refl)

-- no more bytes than eight a gap
bytes_within : (n : ℕ) (gaps : List ℕ) → length gaps ≤ n → length (spelled_words gaps) ≤ 8 * length gaps
bytes_within n [] few = rw no_words (omega arith)
bytes_within zero (gap ∷ gaps) few = absurd (omega arith)
bytes_within (suc n) (gap ∷ gaps) few =
    let some = count_some (selector_of (gap ∷ gaps)) (selector_small (gap ∷ gaps)) in
    let shorter = length-drop (count_of (selector_of (gap ∷ gaps))) (gap ∷ gaps) in
    let next = ap length (one_word (gap ∷ gaps) (omega arith)) ∙ length-append (to_le_bytes w64 (word_of (selector_of (gap ∷ gaps)) (gap ∷ gaps))) (spelled_words (drop (count_of (selector_of (gap ∷ gaps))) (gap ∷ gaps))) in
    omega (arith, next, shorter, some, bytes_within n (drop (count_of (selector_of (gap ∷ gaps))) (gap ∷ gaps)) (omega (arith, shorter, some)))

pub bytes_few : (gaps : List ℕ) → length (spelled_words gaps) ≤ 8 * length gaps
bytes_few gaps = bytes_within (length gaps) gaps (omega arith)
