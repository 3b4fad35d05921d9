-- Options of any command: words `KEY=VALUE`, in any order, each key at most once. This project's grammar.
use Rattle.std.specs.Prelude.{ℕ, ◌≡◌, ◌≤◌, ◌==◌, List, [], ◌∷◌, ◌++◌, length, codes, Option, Some, None, All}
use Rattle.std.specs.List.{AllByRecursion, Contains, slice_split}
use Rattle.std.specs.Option.{option_or}
use Rattle.jass_base.specs.Decimal.{decimal_of}
use Rattle.jass_base.specs.declared.answer.Budget.{Budget}
use Rattle.query_reader.specs.declared.mode.Mode.{Mode}
use Rattle.query_reader.specs.declared.mode.Mode.TheVariants.{Plain, Folded}
use Rattle.weights.specs.declared.weighting.Rule.{Rule}
use Rattle.weights.specs.declared.weighting.Rule.TheVariants.{Tf, Bm25}
use Rattle.weights.specs.declared.quantizing.Bits.{Bits}
use Rattle.weights.specs.declared.quantizing.Bits.TheVariants.{Raw, Of}
use Rattle.jass_words.specs.Numbers.{IsNumber, IsCount, IsBudget}
use Rattle.jass_words.specs.Spelled.{Spell, HaveOnce}
use Rattle.jass_words.specs.declared.keys.Key.{Key}
use Rattle.jass_words.specs.declared.keys.Key.TheVariants as keys
use Rattle.jass_words.specs.declared.until.Until.{Until}
use Rattle.jass_words.specs.declared.until.Until.TheVariants as untils
use Rattle.jass_base.specs.declared.limits.TheConstants.{MOST_FRAMES}
use Rattle.jass_words.specs.declared.word_limits.TheConstants.{LONGEST_TAG, MOST_BITS, MOST_BUDGETS}

-- the letters of a key
abbrev pub key_text : Key → List ℕ
key_text keys.Hits = codes "k"
key_text keys.Limits = codes "budget"
key_text keys.Tag = codes "tag"
key_text keys.Reading = codes "mode"
key_text keys.Stopping = codes "until"
key_text keys.Weights = codes "weights"
key_text keys.Width = codes "bits"
key_text keys.Frames = codes "frames"

-- what the option of a key says: how many hits, which budgets, ..
abbrev pub Said : Key → Type 0
Said keys.Hits = ℕ
Said keys.Limits = List Budget
Said keys.Tag = List ℕ
Said keys.Reading = Mode
Said keys.Stopping = Until
Said keys.Weights = Rule
Said keys.Width = Bits
Said keys.Frames = ℕ

-- an option
pub record OptionData : Type 0 where
  pub key : Key
  pub said : Said key

-- 1 to 16 budgets, divided by commas
pub record AreBudgets (value : List ℕ) (budgets : List Budget) : Type 0 where
  pub each : Spell IsBudget (slice_split (λ b. b == 44) value) budgets
  pub few : length budgets ≤ MOST_BUDGETS

-- the tag of a run: 1 to 64 visible ASCII characters
pub record IsTag (tag : List ℕ) : Type 0 where
  pub some : 1 ≤ length tag
  pub fits : length tag ≤ LONGEST_TAG
  pub visible : All (λ b. (33 ≤ b) × (b ≤ 126)) tag

-- how the queries are read
abbrev pub IsMode : List ℕ → Mode → Type 0
IsMode value Plain = value ≡ codes "plain"
IsMode value Folded = value ≡ codes "folded"

-- how far the queries are searched
abbrev pub IsUntil : List ℕ → Until → Type 0
IsUntil value untils.Budget = value ≡ codes "budget"
IsUntil value untils.Final = value ≡ codes "final"

-- `tf` or `bm25`
abbrev pub IsRule : List ℕ → Rule → Type 0
IsRule value Tf = value ≡ codes "tf"
IsRule value Bm25 = value ≡ codes "bm25"

-- `raw`, or a decimal from 1 to 16
abbrev pub IsBits : List ℕ → Bits → Type 0
IsBits value Raw = value ≡ codes "raw"
IsBits value (Of bits) = (decimal_of value ≡ Some bits) × (1 ≤ bits) × (bits ≤ MOST_BITS)

-- the text behind the key's `=` says this
abbrev pub IsValue : (key : Key) → List ℕ → Said key → Type 0
IsValue keys.Hits value k = IsCount value k
IsValue keys.Limits value budgets = AreBudgets value budgets
IsValue keys.Tag value tag = (value ≡ tag) × IsTag tag
IsValue keys.Reading value mode = IsMode value mode
IsValue keys.Stopping value until = IsUntil value until
IsValue keys.Weights value rule = IsRule value rule
IsValue keys.Width value bits = IsBits value bits
IsValue keys.Frames value frames = IsNumber value 1 MOST_FRAMES frames

-- the word spells the option: its key ends at the first `=`
pub record IsOption (word : List ℕ) (option : OptionData) : Type 0 where
  pub value : List ℕ
  pub parts : word ≡ key_text option.key ++ (codes "=" ++ value)
  pub says : IsValue option.key value option.said

-- each word spells its option, with an allowed key, and no key stands twice
pub record AreOptions (allowed : List Key) (words : List (List ℕ)) (options : List OptionData) : Type 0 where
  pub spelled : Spell IsOption words options
  pub allows : AllByRecursion (λ option. Contains allowed option.key) options
  pub once : HaveOnce (λ option. option.key) options

-- what an option says, where it is the one of this key
abbrev pub said_as : (key other : Key) → Said other → Option (Said key)
said_as keys.Hits keys.Hits k = Some k
said_as keys.Limits keys.Limits budgets = Some budgets
said_as keys.Tag keys.Tag tag = Some tag
said_as keys.Reading keys.Reading mode = Some mode
said_as keys.Stopping keys.Stopping until = Some until
said_as keys.Weights keys.Weights rule = Some rule
said_as keys.Width keys.Width bits = Some bits
said_as keys.Frames keys.Frames frames = Some frames
said_as key other said = None

-- what the option of a key says, where there is one
abbrev pub given : (key : Key) → List OptionData → Option (Said key)
given key [] = None
given key (option ∷ options) = option_or (said_as key option.key option.said) (given key options)
