-- Why no index was made: of a file that wasn't read, or by one that couldn't be written.
use Rattle.std.proofs.Common.{◌≡◌, ℕ, List, Option, Result, Ok, Err, IsErrOf, inl, refl, subst, sym}
use Rattle.index_import.proofs.Below.{Bits, CiffFault, Files, ForContent, IsMissing, Rule, SaveFault, TermFault, for_one, read_ciff}
use Rattle.ciff_read.specs.Walk.{IsOutside}
use Rattle.ciff_read.specs.declared.refusal.CiffFault.TheVariants as reading
use Rattle.index_write.specs.declared.fault.SaveFault.TheVariants as saving
use Rattle.index_write.specs.declared.fault.TermFault.TheVariants as terms
use Rattle.index_import.specs.Importing.{Imports}
use Rattle.index_import.specs.Private.Faults.{unappended, unbegun, unread}
use Rattle.index_import.specs.declared.fault.ImportFault.{ImportFault}
use Rattle.index_import.specs.declared.fault.ImportFault.TheVariants.{NoMemory, ReadFault, WriteFault}
use Rattle.index_import.proofs.Imported.{on_there}

-- the one fault is a read fault only where the other is
pub unread_read : {T U : Type 0} (fault : CiffFault) (result : ImportFault) → result ≡ unread fault
    → (let here : Result T ImportFault = Err result in IsErrOf here ReadFault) → (let there : Result U CiffFault = Err fault in IsErrOf there reading.ReadFault)
unread_read (reading.Refused refusal) result from is = absurd cc
unread_read reading.ReadFault result from is = cc
unread_read reading.NoMemory result from is = absurd cc

-- nothing is wrong, or memory is refused
pub no_fault : {T : Type 0} {x : T} {fault : ImportFault} → ¬ (let done : Result T ImportFault = Ok x in IsErrOf done fault)
no_fault is = cc

pub memory_no_read : {T : Type 0} → ¬ (let refused : Result T ImportFault = Err NoMemory in IsErrOf refused ReadFault)
memory_no_read is = cc

pub memory_no_write : {T : Type 0} → ¬ (let refused : Result T ImportFault = Err NoMemory in IsErrOf refused WriteFault)
memory_no_write is = cc

-- why an index was not begun
pub unbegun_read : {T : Type 0} (fault : SaveFault) (result : ImportFault) → result ≡ unbegun fault → ¬ (let here : Result T ImportFault = Err result in IsErrOf here ReadFault)
unbegun_read (saving.TooLarge length) result from is = cc
unbegun_read saving.WriteFault result from is = cc
unbegun_read saving.NoMemory result from is = cc

pub unbegun_write : {T U : Type 0} (fault : SaveFault) (result : ImportFault) → result ≡ unbegun fault
    → (let here : Result T ImportFault = Err result in IsErrOf here WriteFault) → (let there : Result U SaveFault = Err fault in IsErrOf there saving.WriteFault)
unbegun_write (saving.TooLarge length) result from is = absurd cc
unbegun_write saving.WriteFault result from is = refl
unbegun_write saving.NoMemory result from is = absurd cc

-- why payloads were not appended
pub unappended_read : {T : Type 0} (at : ℕ) (fault : TermFault) (result : ImportFault) → result ≡ unappended at fault → ¬ (let here : Result T ImportFault = Err result in IsErrOf here ReadFault)
unappended_read at (terms.Changed kept found) result from is = cc
unappended_read at terms.WriteFault result from is = cc
unappended_read at terms.NoMemory result from is = cc

pub unappended_write : {T U : Type 0} (at : ℕ) (fault : TermFault) (result : ImportFault) → result ≡ unappended at fault
    → (let here : Result T ImportFault = Err result in IsErrOf here WriteFault) → (let there : Result U TermFault = Err fault in IsErrOf there terms.WriteFault)
unappended_write at (terms.Changed kept found) result from is = absurd cc
unappended_write at terms.WriteFault result from is = refl
unappended_write at terms.NoMemory result from is = absurd cc

-- it is never a write fault
pub unread_write : {T : Type 0} (fault : CiffFault) (result : ImportFault) → result ≡ unread fault → ¬ (let here : Result T ImportFault = Err result in IsErrOf here WriteFault)
unread_write (reading.Refused refusal) result from is = cc
unread_write reading.ReadFault result from is = cc
unread_write reading.NoMemory result from is = cc

-- a fault of the world leaves the index as it was
pub outside_imports : (files now : Option Files) (name index : List ℕ) (rule : Rule) (bits : Bits) (fault : CiffFault) (result : ImportFault) → result ≡ unread fault → now ≡ files → ¬ IsMissing files name
    → ForContent files name (λ content. IsOutside fault) → Imports files now name index rule bits (Err result)
outside_imports files now name index rule bits fault result is same here outside = subst (λ (r : ImportFault). Imports files now name index rule bits (Err r)) (sym is) (by fault outside)
  where
    by : (fault : CiffFault) → ForContent files name (λ content. IsOutside fault) → Imports files now name index rule bits (Err (unread fault))
    by (reading.Refused refusal) outside =
        (on_there files name (λ content. read_ciff content ≡ Err refusal) here (for_one files name (λ content. ⊥) (λ content. read_ciff content ≡ Err refusal) (λ content no. absurd no) outside), same)
    by reading.ReadFault outside = inl same
    by reading.NoMemory outside = inl same
