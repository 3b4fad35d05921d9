-- What the words behind a command's first one say: fixed words first, each in its slot, and then the command's tail.
-- This project's grammar.
use Rattle.std.specs.Prelude.{ℕ, zero, suc, ◌≡◌, ◌≢◌, ◌≤◌, List, [], ◌∷◌, ◌++◌, length, replicate, All, ⊤}
use Rattle.std.specs.List.{AllByRecursion}
use Rattle.jass_base.specs.declared.answer.Budget.{Budget}
use Rattle.jass_words.specs.Numbers.{IsNumber, IsBudget}
use Rattle.jass_words.specs.Options.{Said, OptionData, IsOption, AreOptions}
use Rattle.jass_words.specs.declared.keys.Key.{Key}
use Rattle.jass_base.specs.declared.limits.TheConstants.{LONGEST_FILE_NAME, LONGEST_TERM, MOST_TERM_WORDS}
use Rattle.jass_words.specs.declared.word_limits.TheConstants.{LEAST_PARTS, MOST_PARTS}

-- a file's name: 1 to 4,096 bytes, none of them 0
pub record IsFile (word : List ℕ) : Type 0 where
  pub some : 1 ≤ length word
  pub fits : length word ≤ LONGEST_FILE_NAME
  pub nonzero : All (λ b. b ≢ 0) word

-- a term, as it stands
abbrev pub IsTerm : List ℕ → Type 0
IsTerm word = length word ≤ LONGEST_TERM

-- the terms of a query: 1 to 255
pub record AreTermWords (terms : List (List ℕ)) : Type 0 where
  pub some : 1 ≤ length terms
  pub few : length terms ≤ MOST_TERM_WORDS
  pub each : All IsTerm terms

-- ---- fixed words

-- what a fixed word says: a file, a number from a least to a greatest one, or a budget
pub data Slot : Type 0 where
  File : Slot
  Number : ℕ → ℕ → Slot
  Postings : Slot

abbrev pub Value : Slot → Type 0
Value File = List ℕ
Value (Number least most) = ℕ
Value Postings = Budget

-- the word says so; a file differs, as text, from the files before it
abbrev pub Says : (slot : Slot) → List (List ℕ) → List ℕ → Value slot → Type 0
Says File before word file = (word ≡ file) × IsFile word × AllByRecursion (λ other. other ≢ word) before
Says (Number least most) before word n = IsNumber word least most n
Says Postings before word budget = IsBudget word budget

-- the files up to a word
abbrev pub files_with : (slot : Slot) → Value slot → List (List ℕ) → List (List ℕ)
files_with File file before = before ++ file ∷ []
files_with (Number least most) n before = before
files_with Postings budget before = before

abbrev pub Values : List Slot → Type 0
Values [] = ⊤
Values (slot ∷ slots) = Value slot × Values slots

-- the words say the values, behind these files, and the others are left
abbrev pub AreFixed : (slots : List Slot) → List (List ℕ) → List (List ℕ) → Values slots → List (List ℕ) → Type 0
AreFixed [] before words values rest = words ≡ rest
AreFixed (slot ∷ slots) before [] values rest = ⊥
AreFixed (slot ∷ slots) before (word ∷ words) values rest =
    Says slot before word values.0 × AreFixed slots (files_with slot values.0 before) words values.1 rest

-- ---- the words behind the fixed ones

-- how many parts a collection has, a file for each of them and two more, and options
pub record PartsSaid : Type 0 where
  pub parts : ℕ
  pub files : Values (replicate (suc (suc parts)) File)
  pub options : List OptionData

-- the files that some slots of files say
abbrev pub files_in : (n : ℕ) → Values (replicate n File) → List (List ℕ)
files_in zero none = []
files_in (suc n) (file, files) = file ∷ files_in n files

abbrev pub files_said : PartsSaid → List (List ℕ)
files_said said = files_in (suc (suc said.parts)) said.files

-- the first word says how many parts there are, 2 to 16; behind it stand a file for each and two more, and then options
pub record ArePartWords (allowed : List Key) (words : List (List ℕ)) (said : PartsSaid) : Type 0 where
  pub count : List ℕ
  pub behind : List (List ℕ)
  pub rest : List (List ℕ)
  pub first : words ≡ count ∷ behind
  pub counted : IsNumber count LEAST_PARTS MOST_PARTS said.parts
  pub files : AreFixed (replicate (suc (suc said.parts)) File) [] behind said.files rest
  pub options : AreOptions allowed rest said.options

-- none; the terms of a query; options of the keys; the option of a key alone, which must be there; or parts of a
-- collection with options of the keys
pub data Tail : Type 0 where
  Ends : Tail
  Terms : Tail
  May : List Key → Tail
  Must : Key → Tail
  Parts : List Key → Tail

abbrev pub Extra : Tail → Type 0
Extra Ends = ⊤
Extra Terms = List (List ℕ)
Extra (May allowed) = List OptionData
Extra (Must key) = Said key
Extra (Parts allowed) = PartsSaid

abbrev pub IsTail : (tail : Tail) → List (List ℕ) → Extra tail → Type 0
IsTail Ends words extra = words ≡ []
IsTail Terms words terms = (words ≡ terms) × AreTermWords terms
IsTail (May allowed) words options = AreOptions allowed words options
IsTail (Must key) words said =
    (word : List ℕ) × (words ≡ word ∷ []) × IsOption word (record { key = key; said = said })
IsTail (Parts allowed) words said = ArePartWords allowed words said

-- ---- both

-- the words say the values and the rest, behind these files
abbrev pub IsForm : (slots : List Slot) (tail : Tail) → List (List ℕ) → List (List ℕ) → Values slots → Extra tail
    → Type 0
IsForm [] tail before words values extra = IsTail tail words extra
IsForm (slot ∷ slots) tail before [] values extra = ⊥
IsForm (slot ∷ slots) tail before (word ∷ words) values extra =
    Says slot before word values.0 × IsForm slots tail (files_with slot values.0 before) words values.1 extra
