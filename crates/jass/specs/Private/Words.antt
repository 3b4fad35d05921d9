-- The word at a place of a command line.
use Rattle.std.specs.Prelude.{ℕ, ◌≡◌, List, Option, Some, None, ⊤, slice_get}
use Rattle.std.specs.Option.{option_map}
use Rattle.jass.specs.CommandLine.{word_of}

-- the word of the argument at a place, or None where there is none, where the arguments are told
abbrev pub GivesWord : Option (List (List ℕ)) → ℕ → Option (List ℕ) → Type 0
GivesWord None place word = ⊤
GivesWord (Some arguments) place word = word ≡ option_map word_of (slice_get arguments place)
