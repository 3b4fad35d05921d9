-- What the functions that read words answer.
use Rattle.std.specs.Prelude.{ℕ, ◌≡◌, List, [], ◌∷◌, Bool, Option, Result, Ok, Err, drop}
use Rattle.std.specs.Borrow.{Bor}
use Rattle.std.specs.Option.{option_map, option_or, is_some}
use Rattle.jass_words.specs.declared.command.Command.{Command}
use Rattle.jass_words.specs.declared.keys.Key.{Key}
use Rattle.jass_words.specs.declared.keys.Key.TheVariants as keys
use Rattle.jass_words.specs.declared.names.Name.{Name}
use Rattle.jass_words.specs.declared.option_words.OptionWord.{OptionWord}
use Rattle.jass_words.specs.declared.option_words.OptionWord.TheVariants as option_words
use Rattle.jass_words.specs.declared.options.Options.{Options}
use Rattle.jass_words.specs.declared.word_fault.WordFault.{WordFault}
use Rattle.jass_words.specs.Commands.{command_data}
use Rattle.jass_words.specs.Options.{Said, OptionData, AreOptions, said_as, given}
use Rattle.jass_words.specs.Slots.{File, Ends}
use Rattle.jass_words.specs.Table.{slots_of, tail_of}
use Rattle.jass_words.specs.Words.{command_of}
use Rattle.jass_words.specs.Private.Faults.{IsRead, IsFault, SaidAt}

-- ---- options

-- an option in memory as plain data
abbrev pub option_data : OptionWord → OptionData
option_data (option_words.Hits k) = record { key = keys.Hits; said = k }
option_data (option_words.Limits budgets) = record { key = keys.Limits; said = budgets }
option_data (option_words.Tag tag) = record { key = keys.Tag; said = tag.now }
option_data (option_words.Reading mode) = record { key = keys.Reading; said = mode }
option_data (option_words.Stopping until) = record { key = keys.Stopping; said = until }
option_data (option_words.Weights rule) = record { key = keys.Weights; said = rule }
option_data (option_words.Width bits) = record { key = keys.Width; said = bits }
option_data (option_words.Frames frames) = record { key = keys.Frames; said = frames }

-- what the option of a key says, of those that were read
abbrev pub found : Options → (key : Key) → Option (Said key)
found read keys.Hits = read.hits
found read keys.Limits = read.limits
found read keys.Tag = option_map (λ tag. tag.now) read.tag
found read keys.Reading = read.mode
found read keys.Stopping = read.until
found read keys.Weights = read.rule
found read keys.Width = read.bits
found read keys.Frames = read.frames

-- whether there is one
abbrev pub is_found : Options → Key → Bool
is_found read keys.Hits = is_some read.hits
is_found read keys.Limits = is_some read.limits
is_found read keys.Tag = is_some read.tag
is_found read keys.Reading = is_some read.mode
is_found read keys.Stopping = is_some read.until
is_found read keys.Weights = is_some read.rule
is_found read keys.Width = is_some read.bits
is_found read keys.Frames = is_some read.frames

-- what is found behind an option more: what this says, and else what was found
abbrev pub Takes : Options → OptionData → Options → Type 0
Takes read option next =
    (key : Key) → found next key ≡ option_or (said_as key option.key option.said) (found read key)

-- the words spell options, and these are what they give
pub record AreRead (allowed : List Key) (words : List (List ℕ)) (read : Options) : Type 0 where
  pub options : List OptionData
  pub are : AreOptions allowed words options
  pub gives : (key : Key) → found read key ≡ given key options

-- ---- commands

-- the words behind the first one are those of the command, or the fault is the first in them
abbrev pub ReadsAs : Name → List (List ℕ) → Result Command WordFault → Type 0
ReadsAs name words (Ok command) =
    IsRead (slots_of name) (tail_of name) [] 1 words (command_of name) (command_data command)
ReadsAs name words (Err fault) = IsFault (slots_of name) (tail_of name) [] 1 words fault.which

-- the same of two files and nothing behind them
abbrev pub ReadsFiles : List (List ℕ) → Result (Bor (List ℕ) × Bor (List ℕ)) WordFault → Type 0
ReadsFiles words (Ok files) =
    SaidAt File [] 1 words files.0.now × SaidAt File (files.0.now ∷ []) 2 words files.1.now × (drop 3 words ≡ [])
ReadsFiles words (Err fault) = IsFault (File ∷ File ∷ []) Ends [] 1 words fault.which
