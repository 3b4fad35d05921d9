-- A text that goes to a file in pieces.
use Rattle.std.specs.Prelude.{ℕ, ◌≡◌, ◌≤◌, List, ◌++◌, Bool, true, false, IfErr, IsErrOf, IsTrue, OnErr, OnOk, Option, Result}
use Rattle.jass_base.specs.Outside.{Appended, Files, HasCause, Rose, Sets}
use Rattle.jass_base.specs.declared.cabinet.Cabinet as cabinet
use Rattle.index_write.specs.Saving.{LeavesPrefix, Untouched}
use Rattle.index_layout.specs.Heads.{HeadData}
use Rattle.index_write.specs.Streaming.{Unappended, Unappending, Unbegun, change_of}
use Rattle.index_write.specs.declared.fault.SaveFault.{SaveFault}
use Rattle.index_write.specs.declared.fault.SaveFault.TheVariants as saving
use Rattle.index_write.specs.declared.fault.TermFault.{TermFault}
use Rattle.index_write.specs.declared.fault.TermFault.TheVariants as terms
use Rattle.jass_base.specs.declared.limits.TheConstants.{LONGEST_FILE}

-- the bytes that wait to be written, and whether a write failed
pub record Waiting : Type 0 where
  pub bytes : List ℕ
  pub failed : Bool

-- the same with more bytes behind the others
abbrev pub with_more : Waiting → List ℕ → Waiting
with_more waiting bytes = record { bytes = waiting.bytes ++ bytes; failed = waiting.failed }

-- a text that was sent is the content of the name, or, where a write failed, a prefix of it may be
abbrev pub Holds : Bool → Option Files → Option Files → List ℕ → List ℕ → Type 0
Holds false old new name text = Sets old new name text
Holds true old new name text = LeavesPrefix old new name text

-- since some contents a text was sent to a file; a write failed only where the files counted a fault, and no count fell
pub record IsSent {C : Type 0} (g : cabinet.Ghosts C) (start now : C) (name : List ℕ) (failed : Bool) (text : List ℕ) : Type 0 where
  pub content : Holds failed (g.told start) (g.told now) name text
  pub cause : IsTrue failed → Rose (g.write_faults start) (g.write_faults now)
  pub later : g.write_faults start ≤ g.write_faults now
  pub others : g.read_faults start ≤ g.read_faults now

-- a text is what was sent and what waits
abbrev pub IsUnderWay : {C : Type 0} → cabinet.Ghosts C → C → C → List ℕ → Waiting → List ℕ → Type 0
IsUnderWay g start now name waiting text =
    (sent : List ℕ) × IsSent g start now name waiting.failed sent × (text ≡ sent ++ waiting.bytes)

-- a part was put behind any text that is under way
abbrev pub Adds : {C : Type 0} → cabinet.Ghosts C → C → C → List ℕ → Waiting → Waiting → List ℕ → Type 0
Adds {C} g old new name before after part =
    (start : C) (text : List ℕ) → IsUnderWay g start old name before text → IsUnderWay g start new name after (text ++ part)

-- a text was made the content of a file; where that failed the files counted a fault, and a prefix of it may be there
pub record Makes {C T E : Type 0} (g : cabinet.Ghosts C) (old new : C) (name text : List ℕ) (result : Result T E) : Type 0 where
  pub ok : OnOk result (Sets (g.told old) (g.told new) name text)
  pub err : OnErr result (LeavesPrefix (g.told old) (g.told new) name text)
  pub cause : HasCause (g.write_faults old) (g.write_faults new) result
  pub others : g.read_faults old ≤ g.read_faults new

-- a text was made what a file of so many bytes begins with, or why it wasn't, and what stands then
pub record Begins {C T : Type 0} (g : cabinet.Ghosts C) (old new : C) (name text : List ℕ) (size : ℕ) (result : Result T SaveFault) : Type 0 where
  pub content : OnOk result (Sets (g.told old) (g.told new) name text)
  pub fits : OnOk result (size ≤ LONGEST_FILE)
  pub fault : IfErr result (Unbegun size)
  pub untouched : IfErr result (Untouched old new)
  pub front : OnErr result (LeavesPrefix (g.told old) (g.told new) name text)
  pub cause : IsErrOf result saving.WriteFault → Rose (g.write_faults old) (g.write_faults new)
  pub later : g.write_faults old ≤ g.write_faults new
  pub others : g.read_faults old ≤ g.read_faults new

-- a term's payloads were put behind a file, whose heads are the kept ones, or why they weren't, and what stands then
pub record Continues {C T : Type 0} (g : cabinet.Ghosts C) (old new : C) (name : List ℕ) (kept found : List HeadData) (part : List ℕ) (result : Result T TermFault) : Type 0 where
  pub heads : OnOk result (found ≡ kept)
  pub content : Appended (g.told old) (g.told new) name part result
  pub fault : IfErr result (Unappended (change_of kept found))
  pub untouched : IfErr result (Unappending old new)
  pub cause : IsErrOf result terms.WriteFault → Rose (g.write_faults old) (g.write_faults new)
  pub later : g.write_faults old ≤ g.write_faults new
  pub others : g.read_faults old ≤ g.read_faults new
