-- The first word tells the command, and the letters in front of the first `=` tell the key.
use Rattle.shared_lemmas.proofs.Common.{◌≡◌, ℕ, List, [], ◌∷◌, ◌++◌, Option, Some, refl, sym, ap, ◌∙◌, eqb, if◌then◌else◌, find, same_Some}
use Rattle.std.specs.Str.{bytes_eq}
use Rattle.jass_words.specs.declared.keys.Key.{Key}
use Rattle.jass_words.specs.declared.keys.Key.TheVariants as keys
use Rattle.jass_words.specs.declared.names.Name.{Name}
use Rattle.jass_words.specs.declared.names.Name.TheVariants as names
use Rattle.jass_words.specs.Options.{key_text}
use Rattle.jass_words.specs.Table.{all_names, word_of}

-- ---- first words

abbrev named : List ℕ → Option Name
named word = find (λ name. bytes_eq (word_of name) word) all_names

finds : (name : Name) → named (word_of name) ≡ Some name
finds names.Once = refl
finds name = refl

pub same_name : (a b : Name) → word_of a ≡ word_of b → a ≡ b
same_name a b is = same_Some a b (sym (finds a) ∙ ap named is ∙ finds b)

-- ---- keys

abbrev pub all_keys : List Key
all_keys = keys.Hits ∷ keys.Limits ∷ keys.Tag ∷ keys.Reading ∷ keys.Stopping ∷ keys.Weights ∷ keys.Width ∷ keys.Frames ∷ []

abbrev keyed : List ℕ → Option Key
keyed text = find (λ key. bytes_eq (key_text key) text) all_keys

finds_key : (key : Key) → keyed (key_text key) ≡ Some key
finds_key keys.Hits = refl
finds_key key = refl

pub same_key : (a b : Key) → key_text a ≡ key_text b → a ≡ b
same_key a b is = same_Some a b (sym (finds_key a) ∙ ap keyed is ∙ finds_key b)

-- the letters in front of the first `=`, and those behind it
abbrev front_of : List ℕ → List ℕ
front_of [] = []
front_of (b ∷ bytes) = if eqb b 61 then [] else b ∷ front_of bytes

abbrev value_in : List ℕ → List ℕ
value_in [] = []
value_in (b ∷ bytes) = if eqb b 61 then bytes else value_in bytes

key_front : (key : Key) (value : List ℕ) → front_of (key_text key ++ 61 ∷ value) ≡ key_text key
key_front keys.Hits value = refl
key_front key value = refl

key_value : (key : Key) (value : List ℕ) → value_in (key_text key ++ 61 ∷ value) ≡ value
key_value keys.Hits value = refl
key_value key value = refl

pub one_key : (word : List ℕ) (a b : Key) (v w : List ℕ) → word ≡ key_text a ++ 61 ∷ v → word ≡ key_text b ++ 61 ∷ w → a ≡ b
one_key word a b v w is theirs = same_key a b (sym (key_front a v) ∙ ap front_of (sym is ∙ theirs) ∙ key_front b w)

pub one_value_behind : (word : List ℕ) (a b : Key) (v w : List ℕ) → word ≡ key_text a ++ 61 ∷ v → word ≡ key_text b ++ 61 ∷ w → v ≡ w
one_value_behind word a b v w is theirs = sym (key_value a v) ∙ ap value_in (sym is ∙ theirs) ∙ key_value b w
