-- The content of a name, and what a call that reads it leaves as it was.
use Rattle.std.specs.Prelude.{ℕ, ◌≡◌, ◌≤◌, ◌⊎◌, List, Option, Some, None, Result, IsErrOf}
use Rattle.std.specs.FinMap.{get}
use Rattle.jass_base.specs.Outside.{Files, IsMissing, Rose}
use Rattle.jass_base.specs.declared.cabinet.Cabinet as cabinet
use Rattle.index_layout.specs.declared.refusal.OpenFault.{OpenFault}
use Rattle.index_layout.specs.declared.refusal.OpenFault.TheVariants as faults

-- the contents are told, and this is the one of the name
abbrev pub IsContent : Option Files → List ℕ → List ℕ → Type 0
IsContent None name content = ⊥
IsContent (Some files) name content = get files name ≡ Some content

-- what was told before and after a call, and the counts of read faults and of write faults
pub record Outside : Type 0 where
  pub told : Option Files
  pub read_faults : ℕ
  pub write_faults : ℕ

abbrev pub outside : {C : Type 0} → cabinet.Ghosts C → C → Outside
outside c files = record {
  told = c.told files;
  read_faults = c.read_faults files;
  write_faults = c.write_faults files;
}

-- a call read the content of a name, and changed nothing; it failed to read only where a count of faults rose or the
-- name is missing
pub record Reads {T : Type 0} (before after : Outside) (name : List ℕ) (result : Result T OpenFault) : Type 0 where
  pub stays : after.told ≡ before.told
  pub later : before.read_faults ≤ after.read_faults
  pub others : before.write_faults ≤ after.write_faults
  pub fault : IsErrOf result faults.ReadFault
      → Rose before.read_faults after.read_faults ⊎ IsMissing before.told name
