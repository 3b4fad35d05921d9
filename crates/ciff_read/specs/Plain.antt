-- What a fault says where a file is read for the first time.
use Rattle.std.specs.Prelude.{⊤}
use Rattle.ciff_read.specs.declared.refusal.CiffWhy.{CiffWhy}
use Rattle.ciff_read.specs.declared.refusal.CiffWhy.TheVariants.{Changed}
use Rattle.ciff_read.specs.declared.refusal.CiffFault.{CiffFault}
use Rattle.ciff_read.specs.declared.refusal.CiffFault.TheVariants as faults

-- a refusal of what was read once
abbrev pub SaysNoChange : CiffWhy → Type 0
SaysNoChange (Changed kept found) = ⊥
SaysNoChange why = ⊤

-- a fault that no reading before takes part in
abbrev pub IsPlain : CiffFault → Type 0
IsPlain (faults.Refused refusal) = SaysNoChange refusal.why
IsPlain faults.ReadFault = ⊤
IsPlain faults.NoMemory = ⊤
