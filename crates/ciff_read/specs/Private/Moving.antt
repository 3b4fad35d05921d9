-- A fault of a message that stands further on in a file.
use Rattle.std.specs.Prelude.{ℕ}
use Rattle.ciff_read.specs.declared.refusal.CiffFault.{CiffFault}
use Rattle.ciff_read.specs.declared.refusal.CiffFault.TheVariants as faults
use Rattle.ciff_read.specs.Moving.{refusal_moved}

-- a fault so many places further on
abbrev pub fault_moved : ℕ → CiffFault → CiffFault
fault_moved base (faults.Refused e) = faults.Refused (refusal_moved base e)
fault_moved base faults.ReadFault = faults.ReadFault
fault_moved base faults.NoMemory = faults.NoMemory
