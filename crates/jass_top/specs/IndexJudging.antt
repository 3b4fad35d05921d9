-- What index files, and indexes that become files, are judged to be.
use Rattle.std.specs.Prelude.{ℕ, ◌≡◌, nat_le, List, length, Option, Some, None, Result, Ok, Err, if◌then◌else◌}
use Rattle.std.specs.FinMap.{get}
use Rattle.jass_base.specs.Outside.{Files}
use Rattle.index_model.specs.Index.{IndexData}
use Rattle.index_layout.specs.declared.refusal.OpenRefusal.{OpenRefusal}
use Rattle.index_layout.specs.Reading.{read_index}
use Rattle.index_layout.specs.Refusals.{number_of}
use Rattle.index_layout.specs.View.{FileView, index_text}
use Rattle.index_version1.specs.Reading.{read_index1}
use Rattle.jass_top.specs.declared.stop.Place.{Place}
use Rattle.jass_top.specs.declared.stop.Place.TheVariants.{Byte}
use Rattle.jass_top.specs.Judging.{Judged, Accepted, Missing, Refuses, Untold, behind}
use Rattle.jass_base.specs.declared.limits.TheConstants.{LONGEST_FILE}

abbrev pub judged_file : {A : Type 0} → List ℕ → Result A OpenRefusal → Judged A
judged_file name (Ok v) = Accepted v
judged_file name (Err refusal) = Refuses name (number_of refusal.why) (Byte refusal.at)

abbrev pub judged_index : List ℕ → Option (List ℕ) → Judged FileView
judged_index name None = Missing name
judged_index name (Some content) = judged_file name (read_index content)

-- an index file, by its content's view or first refusal
unfoldable pub judge_index : List ℕ → Option Files → Judged FileView
judge_index name None = Untold
judge_index name (Some files) = judged_index name (get files name)

-- the index that an index file holds
abbrev pub judge_held : List ℕ → Option Files → Judged IndexData
judge_held name told = behind (judge_index name told) (λ file. Accepted file.index)

abbrev pub judged_old : List ℕ → Option (List ℕ) → Judged IndexData
judged_old name None = Missing name
judged_old name (Some content) = judged_file name (read_index1 content)

-- an index file of version 1, by its content's index or first refusal
unfoldable pub judge_old : List ℕ → Option Files → Judged IndexData
judge_old name None = Untold
judge_old name (Some files) = judged_old name (get files name)

-- what reading a content gave is a first refusal with this number and place
pub record IsFirstRefusal {A : Type 0} (read : Result A OpenRefusal) (number : ℕ) (at : Place) : Type 0 where
  pub refusal : OpenRefusal
  pub first : read ≡ Err refusal
  pub numbered : number ≡ number_of refusal.why
  pub placed : at ≡ Byte refusal.at

-- an index that is to become a file, of the input of this name: 49 at the file's length where that is above 2^32 bytes
unfoldable pub fitting : List ℕ → IndexData → Judged IndexData
fitting name index =
    if nat_le (length (index_text index)) LONGEST_FILE then Accepted index
    else Refuses name 49 (Byte (length (index_text index)))
