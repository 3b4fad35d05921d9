-- The words that a program's arguments give.
use Rattle.std.specs.Prelude.{ℕ, ◌≡◌, ◌<◌, ◌&&◌, List, length, take, drop, map, Option, Some, None, Result, Ok, Err, ⊤, IsSomeAnd, codes, nat_le, slice_get, if◌then◌else◌}
use Rattle.std.specs.List.{repeat}
use Rattle.std.specs.Str.{is_utf8}
use Rattle.std.specs.declared.env.FillError.{FillError}
use Rattle.std.specs.declared.env.FillError.TheVariants.{NotPresent, TooLong}

-- what asking for the argument at a place gives, where the arguments are told
abbrev pub GivesArgument : Option (List (List ℕ)) → ℕ → Result ℕ FillError → List ℕ → Type 0
GivesArgument None place result buf = ⊤
GivesArgument (Some arguments) place (Ok n) buf = IsSomeAnd (slice_get arguments place) (λ argument. argument ≡ take n buf)
GivesArgument (Some arguments) place (Err TooLong) buf = IsSomeAnd (slice_get arguments place) (λ argument. length buf < length argument)
GivesArgument (Some arguments) place (Err NotPresent) buf = slice_get arguments place ≡ None

-- a word that is longer than any word of a command
abbrev pub long_word : List ℕ
long_word = repeat 65536 (codes "x")

-- the word of an argument: its bytes, or the long word where they are no text or are longer than that
abbrev pub word_of : List ℕ → List ℕ
word_of argument = if nat_le (length argument) 65536 && is_utf8 argument then argument else long_word

-- the words of the arguments behind the program's name, in their order, where the arguments are told
abbrev pub AreWords : Option (List (List ℕ)) → List (List ℕ) → Type 0
AreWords None words = ⊤
AreWords (Some arguments) words = words ≡ map word_of (drop 1 arguments)
