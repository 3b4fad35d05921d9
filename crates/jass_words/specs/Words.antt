-- The words of the command line: what a command is, and the first word that is none of a command's. This project's grammar.
use Rattle.std.specs.Prelude.{ℕ, suc, ◌≡◌, ◌<◌, ◌≤◌, ◌+◌, List, [], ◌∷◌, ◌++◌, length, take, map, codes, String}
use Rattle.std.specs.List.{slice_index_or}
use Rattle.std.specs.String.{string_bytes}
use Rattle.std.specs.declared.alloc.Global.{Global}
use Rattle.std.specs.Option.{unwrap_or}
use Rattle.jass_base.specs.declared.answer.Budget.{Budget}
use Rattle.jass_base.specs.declared.answer.Budget.TheVariants as budgets
use Rattle.weights.specs.declared.weighting.Rule.{Rule}
use Rattle.weights.specs.declared.weighting.Rule.TheVariants.{Tf}
use Rattle.weights.specs.declared.quantizing.Bits.{Bits}
use Rattle.weights.specs.declared.quantizing.Bits.TheVariants.{Raw}
use Rattle.query_reader.specs.declared.mode.Mode.{Mode}
use Rattle.query_reader.specs.declared.mode.Mode.TheVariants.{Plain}
use Rattle.jass_words.specs.Options.{given}
use Rattle.jass_words.specs.Slots.{Values, Extra, IsForm, PartsSaid, files_said}
use Rattle.jass_words.specs.Table.{word_of, slots_of, tail_of}
use Rattle.jass_words.specs.declared.keys.Key.TheVariants as keys
use Rattle.jass_words.specs.declared.until.Until.{Until}
use Rattle.jass_words.specs.declared.until.Until.TheVariants as untils
use Rattle.jass_words.specs.declared.names.Name.{Name}
use Rattle.jass_words.specs.declared.names.Name.TheVariants as names
use Rattle.jass_base.specs.declared.limits.TheConstants.{MOST_TRIAL}
use Rattle.jass_words.specs.declared.word_limits.TheConstants.{MOST_QUERIES, MOST_SEED}

-- the words as texts
abbrev pub texts : List (String Global) → List (List ℕ)
texts words = map string_bytes words

-- a command, and what its words say
pub data CommandData : Type 0 where
  Once : List ℕ → ℕ → Budget → List (List ℕ) → CommandData
  Rewrite : List ℕ → List ℕ → CommandData
  Import : List ℕ → List ℕ → Rule → Bits → CommandData
  Check : List ℕ → CommandData
  Export : List ℕ → List ℕ → CommandData
  Migrate : List ℕ → List ℕ → CommandData
  Search : List ℕ → List ℕ → List ℕ → ℕ → List Budget → List ℕ → Mode → Until → CommandData
  Shards : List (List ℕ) → List ℕ → List ℕ → ℕ → List Budget → List ℕ → Mode → CommandData
  Exhaust : List ℕ → List ℕ → List ℕ → ℕ → List ℕ → Mode → CommandData
  Audit : List ℕ → List ℕ → List ℕ → List ℕ → ℕ → List Budget → List ℕ → Mode → CommandData
  Serve : List ℕ → ℕ → CommandData
  Trial : ℕ → ℕ → ℕ → ℕ → CommandData
  Help : CommandData
  Version : CommandData

-- the file that stands behind so many others
abbrev pub file_behind : ℕ → PartsSaid → List ℕ
file_behind n said = slice_index_or (files_said said) n []

-- the command that its words' values make. An import without an option weighs by tf, and weights stay raw; a search
-- without one asks for 1,000 hits, all postings may be scored, the tag is `jass`, queries are read plain, and each is searched as
-- far as its budgets go; a search over parts is the same, an exhaustive one but for budgets, and an audit takes the search to
-- have been so
abbrev pub command_of : (name : Name) → Values (slots_of name) → Extra (tail_of name) → CommandData
command_of names.Once (ciff, (k, (budget, none))) terms = Once ciff k budget terms
command_of names.Rewrite (from, (to, none)) extra = Rewrite from to
command_of names.Import (ciff, (index, none)) options =
    Import ciff index (unwrap_or (given keys.Weights options) Tf) (unwrap_or (given keys.Width options) Raw)
command_of names.Check (index, none) extra = Check index
command_of names.Export (index, (ciff, none)) extra = Export index ciff
command_of names.Migrate (from, (to, none)) extra = Migrate from to
command_of names.Search (index, (queries, (run, none))) options = Search index queries run
    (unwrap_or (given keys.Hits options) 1000) (unwrap_or (given keys.Limits options) (budgets.All ∷ []))
    (unwrap_or (given keys.Tag options) (codes "jass")) (unwrap_or (given keys.Reading options) Plain)
    (unwrap_or (given keys.Stopping options) untils.Budget)
command_of names.Shards none said = Shards (take said.parts (files_said said))
    (file_behind said.parts said) (file_behind (suc said.parts) said)
    (unwrap_or (given keys.Hits said.options) 1000) (unwrap_or (given keys.Limits said.options) (budgets.All ∷ []))
    (unwrap_or (given keys.Tag said.options) (codes "jass")) (unwrap_or (given keys.Reading said.options) Plain)
command_of names.Exhaust (index, (queries, (run, none))) options = Exhaust index queries run
    (unwrap_or (given keys.Hits options) 1000) (unwrap_or (given keys.Tag options) (codes "jass"))
    (unwrap_or (given keys.Reading options) Plain)
command_of names.Audit (index, (queries, (run, (reports, none)))) options = Audit index queries run reports
    (unwrap_or (given keys.Hits options) 1000) (unwrap_or (given keys.Limits options) (budgets.All ∷ []))
    (unwrap_or (given keys.Tag options) (codes "jass")) (unwrap_or (given keys.Reading options) Plain)
command_of names.Serve (index, none) frames = Serve index frames
command_of names.Trial (seed, (docs, (terms, (queries, none)))) extra = Trial seed docs terms queries
command_of names.Help values extra = Help
command_of names.Version values extra = Version

-- the words are the command: the first is a row's of the table, and those behind it have the form of this row
pub record IsCommand (words : List (List ℕ)) (command : CommandData) : Type 0 where
  pub name : Name
  pub behind : List (List ℕ)
  pub values : Values (slots_of name)
  pub extra : Extra (tail_of name)
  pub parts : words ≡ word_of name ∷ behind
  pub form : IsForm (slots_of name) (tail_of name) [] behind values extra
  pub made : command ≡ command_of name values extra

-- the words are no command
abbrev pub IsNoCommand : List (List ℕ) → Type 0
IsNoCommand words = (command : CommandData) → ¬ IsCommand words command

-- a command begins with the words
abbrev pub IsBegun : List (List ℕ) → Type 0
IsBegun words = (rest : List (List ℕ)) × (command : CommandData) × IsCommand (words ++ rest) command

-- words that are no command, and the first of them, counted from 1, such that no command begins with the words up to it; one more
-- than their number where there is none
pub record IsBadWord (words : List (List ℕ)) (which : ℕ) : Type 0 where
  pub none : IsNoCommand words
  pub before : (n : ℕ) → n < which → IsBegun (take n words)
  pub here : which ≤ length words → ¬ IsBegun (take which words)
  pub there : which ≤ length words + 1

-- what the numbers of a trial keep
pub record IsTrialSize (seed docs terms queries : ℕ) : Type 0 where
  pub seeded : seed ≤ MOST_SEED
  pub sized : (1 ≤ docs) × (docs ≤ MOST_TRIAL)
  pub named : (1 ≤ terms) × (terms ≤ MOST_TRIAL)
  pub asked : queries ≤ MOST_QUERIES
