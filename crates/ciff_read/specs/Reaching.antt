-- What is read of a content by a window.
use Rattle.std.specs.Prelude.{◌≡◌, ⊤, Result, Err}
use Rattle.ciff_read.specs.declared.refusal.CiffRefusal.{CiffRefusal}
use Rattle.ciff_read.specs.declared.refusal.CiffFault.{CiffFault}
use Rattle.ciff_read.specs.declared.refusal.CiffFault.TheVariants as faults

-- a refusal that a function answers is the one that reading gives; a read fault or want of memory may come instead
abbrev pub FailsReading : {Y : Type 0} → CiffFault → Result Y CiffRefusal → Type 0
FailsReading (faults.Refused refusal) read = read ≡ Err refusal
FailsReading faults.ReadFault read = ⊤
FailsReading faults.NoMemory read = ⊤
