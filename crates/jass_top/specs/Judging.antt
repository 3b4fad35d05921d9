-- What the inputs of a command are judged to be.
use Rattle.std.specs.Prelude.{◌≡◌, ℕ, List, Option, Some, None, Result, Ok, Err, ◌⊎◌, ⊤}
use Rattle.std.specs.FinMap.{get}
use Rattle.jass_base.specs.Ciff.{CollectionData}
use Rattle.jass_base.specs.Outside.{Files}
use Rattle.ciff_read.specs.declared.refusal.CiffRefusal.{CiffRefusal}
use Rattle.ciff_read.specs.Reading.{read_ciff}
use Rattle.ciff_read.specs.Refusals.{number_of}
use Rattle.jass_top.specs.declared.stop.Place.{Place}
use Rattle.jass_top.specs.declared.stop.Place.TheVariants.{Byte}

-- the inputs stand for a value, or the first that doesn't is missing, or refused by a number at a place; untold where a
-- content that decides isn't told
pub data Judged (A : Type 0) : Type 0 where
  Accepted : A → Judged A
  Missing : List ℕ → Judged A
  Refuses : List ℕ → ℕ → Place → Judged A
  Untold : Judged A

-- the judgement is this one, where it is told
abbrev pub Shows : {A : Type 0} → Judged A → Judged A → Type 0
Shows judged other = (judged ≡ Untold) ⊎ (judged ≡ other)

-- an input isn't accepted, as is told
abbrev pub IsUnaccepted : {A : Type 0} → Judged A → Type 0
IsUnaccepted (Accepted x) = ⊥
IsUnaccepted (Missing name) = ⊤
IsUnaccepted (Refuses name number at) = ⊤
IsUnaccepted Untold = ⊥

abbrev pub judged_ciff : List ℕ → Result CollectionData CiffRefusal → Judged CollectionData
judged_ciff name (Ok c) = Accepted c
judged_ciff name (Err refusal) = Refuses name (number_of refusal.why) (Byte refusal.at)

abbrev pub judged_content : List ℕ → Option (List ℕ) → Judged CollectionData
judged_content name None = Missing name
judged_content name (Some content) = judged_ciff name (read_ciff content)

-- what is judged behind inputs that stand for a value
abbrev pub behind : {A B : Type 0} → Judged A → (A → Judged B) → Judged B
behind (Accepted x) next = next x
behind (Missing name) next = Missing name
behind (Refuses name number at) next = Refuses name number at
behind Untold next = Untold

-- a file by its content: it has this one, or is missing
abbrev pub judged_there : List ℕ → Option (List ℕ) → Judged (List ℕ)
judged_there name None = Missing name
judged_there name (Some content) = Accepted content

unfoldable pub judge_content : List ℕ → Option Files → Judged (List ℕ)
judge_content name None = Untold
judge_content name (Some files) = judged_there name (get files name)

-- a CIFF file, by its content's collection or first refusal
unfoldable pub judge_ciff : List ℕ → Option Files → Judged CollectionData
judge_ciff name None = Untold
judge_ciff name (Some files) = judged_content name (get files name)

-- the first refusal of a content has this number and place
pub record IsRefused (content : List ℕ) (number : ℕ) (at : Place) : Type 0 where
  pub refusal : CiffRefusal
  pub first : read_ciff content ≡ Err refusal
  pub numbered : number ≡ number_of refusal.why
  pub placed : at ≡ Byte refusal.at
