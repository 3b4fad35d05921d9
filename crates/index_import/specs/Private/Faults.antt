-- Why no index was made, from why a file wasn't read, begun or written.
use Rattle.std.specs.Prelude.{ℕ, ◌≡◌, ⊤, List}
use Rattle.ciff_read.specs.declared.refusal.CiffFault.{CiffFault}
use Rattle.ciff_read.specs.declared.refusal.CiffFault.TheVariants as reading
use Rattle.ciff_read.specs.declared.refusal.CiffWhy.TheVariants.{Changed}
use Rattle.ciff_read.specs.Pieces.{KeptList}
use Rattle.ciff_read.specs.Walk.{HasKept, IsGiven}
use Rattle.index_write.specs.declared.fault.SaveFault.{SaveFault}
use Rattle.index_write.specs.declared.fault.SaveFault.TheVariants as saving
use Rattle.index_write.specs.declared.fault.TermFault.{TermFault}
use Rattle.index_write.specs.declared.fault.TermFault.TheVariants as terms
use Rattle.index_import.specs.Importing.{ChangesWhere}
use Rattle.index_import.specs.declared.fault.ImportFault.{ImportFault}
use Rattle.index_import.specs.declared.fault.ImportFault.TheVariants.{Refused, ReadFault, TooLarge, WriteFault, NoMemory}

-- the file wasn't read
abbrev pub unread : CiffFault → ImportFault
unread (reading.Refused refusal) = Refused refusal
unread reading.ReadFault = ReadFault
unread reading.NoMemory = NoMemory

-- the index wasn't begun
abbrev pub unbegun : SaveFault → ImportFault
unbegun (saving.TooLarge length) = TooLarge length
unbegun saving.WriteFault = WriteFault
unbegun saving.NoMemory = NoMemory

-- the payloads of the list at a place weren't appended
abbrev pub unappended : ℕ → TermFault → ImportFault
unappended at (terms.Changed kept found) = Refused (record { at = at; why = Changed kept found })
unappended at terms.WriteFault = WriteFault
unappended at terms.NoMemory = NoMemory

-- a refusal of the file for a change says two numbers that differ, and P holds of its place and of the one that was kept
abbrev pub ChangesAs : (ℕ → ℕ → Type 0) → CiffFault → Type 0
ChangesAs P (reading.Refused refusal) = ChangesWhere P refusal.at refusal.why
ChangesAs P reading.ReadFault = ⊤
ChangesAs P reading.NoMemory = ⊤

-- it stands at the place of a list
abbrev pub ChangesAt : ℕ → CiffFault → Type 0
ChangesAt at fault = ChangesAs (λ place kept. place ≡ at) fault

-- it stands there, and the number that was kept is that of the list's postings
abbrev pub ChangesKept : List KeptList → ℕ → CiffFault → Type 0
ChangesKept lists at fault = ChangesAs (λ place kept. (place ≡ at) × HasKept lists place kept) fault

-- it stands at the place of one of the lists that were given
abbrev pub ChangesGiven : List KeptList → CiffFault → Type 0
ChangesGiven lists fault = ChangesAs (λ place kept. IsGiven lists place) fault
