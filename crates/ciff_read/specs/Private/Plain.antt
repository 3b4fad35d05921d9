-- What a fault of bytes that are held says of its place.
use Rattle.std.specs.Prelude.{ℕ, ◌≤◌, ⊤}
use Rattle.ciff_read.specs.declared.refusal.CiffFault.{CiffFault}
use Rattle.ciff_read.specs.declared.refusal.CiffFault.TheVariants as faults

-- a fault of bytes that are held: no read fault, and a refusal stands at a place or before it
abbrev pub IsNearFault : ℕ → CiffFault → Type 0
IsNearFault end (faults.Refused refusal) = refusal.at ≤ end
IsNearFault end faults.ReadFault = ⊥
IsNearFault end faults.NoMemory = ⊤
