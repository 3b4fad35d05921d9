-- The words of the first arguments.
use Rattle.shared_lemmas.proofs.Common.{◌≡◌, ℕ, zero, suc, ◌+◌, ◌≤◌, List, [], ◌∷◌, ◌++◌, length, take, drop, map, Bool, true, false, Option, Some, None, String, refl, sym, ap, ◌∙◌, arith, nat_tests, option_map, slice_get, nat_le, ⊤, ◌&&◌, if◌then◌else◌, is_utf8, IsUtf8, string_bytes, map-append}
use Rattle.shared_lemmas.proofs.Common.{length-map, IsUtf8-from_is_utf8, is_utf8-from_IsUtf8}
use Rattle.std.proofs.Common.{Global, length-append}
use Rattle.jass_words.specs.Words.{texts}
use Rattle.jass.specs.CommandLine.{word_of, long_word}
use Rattle.jass.specs.Private.Words.{GivesWord}

abbrev pub SoFar : Option (List (List ℕ)) → List (List ℕ) → Type 0
SoFar None words = ⊤
SoFar (Some arguments) words = words ≡ map word_of (take (length words) (drop 1 arguments))

grown : (rest : List (List ℕ)) (n : ℕ) (a : List ℕ) → slice_get rest n ≡ Some a → take (suc n) rest ≡ take n rest ++ a ∷ []
grown [] n a is = cc
grown (x ∷ rest) zero a is = let same : x ≡ a = cc in ap (λ (w : List ℕ). w ∷ []) same
grown (x ∷ rest) (suc n) a is = ap (λ (ws : List (List ℕ)). x ∷ ws) (grown rest n a is)

behind_first : (arguments : List (List ℕ)) (n : ℕ) → slice_get arguments (suc n) ≡ slice_get (drop 1 arguments) n
behind_first [] n = refl
behind_first (x ∷ rest) n = refl

pub one_more : (told : Option (List (List ℕ))) (words : List (String Global)) (word : String Global) (place : ℕ) → place ≡ suc (length words) → SoFar told (texts words)
    → GivesWord told place (Some (string_bytes word)) → SoFar told (texts (words ++ word ∷ []))
one_more None words word place is so_far here = tt
one_more (Some arguments) words word place is so_far here = at (slice_get arguments place) refl here
  where
    n : ℕ
    n = length (texts words)

    at : (o : Option (List ℕ)) → slice_get arguments place ≡ o → Some (string_bytes word) ≡ option_map word_of o → SoFar (Some arguments) (texts (words ++ word ∷ []))
    at None there holds = cc
    at (Some a) there holds =
        let own : string_bytes word ≡ word_of a = cc in
        let one : place ≡ suc n = is ∙ ap suc (sym (length-map words string_bytes)) in
        let item : slice_get (drop 1 arguments) n ≡ Some a = sym (behind_first arguments n) ∙ ap (slice_get arguments) (sym one) ∙ there in
        let longer : texts (words ++ word ∷ []) ≡ texts words ++ string_bytes word ∷ [] = map-append string_bytes words (word ∷ []) in
        let count : length (texts words ++ string_bytes word ∷ []) ≡ n + 1 = length-append (texts words) (string_bytes word ∷ []) in
        let next : n + 1 ≡ suc n = omega arith in
        let sizes : length (texts (words ++ word ∷ [])) ≡ suc n = ap length longer ∙ count ∙ next in
        longer ∙ (λ i. so_far i ++ own i ∷ []) ∙ sym (map-append word_of (take n (drop 1 arguments)) (a ∷ [])) ∙ ap (map word_of) (sym (grown (drop 1 arguments) n a item))
        ∙ ap (λ (m : ℕ). map word_of (take m (drop 1 arguments))) (sym sizes)

-- ---- the word of one argument

pub as_it_stands : (bytes : List ℕ) → length bytes ≤ 65536 → IsUtf8 bytes → bytes ≡ word_of bytes
as_it_stands bytes fits text =
    let short : nat_le (length bytes) 65536 ≡ true = grind (arith, nat_tests) in
    (λ i. if sym short i && sym (is_utf8-from_IsUtf8 bytes text) i then bytes else long_word)

pub no_text : (bytes : List ℕ) → ¬ IsUtf8 bytes → long_word ≡ word_of bytes
no_text bytes other = at (nat_le (length bytes) 65536) (is_utf8 bytes) refl
  where
    at : (short text : Bool) → is_utf8 bytes ≡ text → long_word ≡ (if short && text then bytes else long_word)
    at false text is = refl
    at true false is = refl
    at true true is = absurd (other (IsUtf8-from_is_utf8 bytes is))
