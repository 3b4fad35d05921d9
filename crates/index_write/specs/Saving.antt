-- Why a text is not written, and what stands then.
use Rattle.std.specs.Prelude.{ℕ, ◌≡◌, ◌<◌, ◌≤◌, ⊤, ◌⊎◌, List, length, take, Option}
use Rattle.jass_base.specs.Outside.{Files, Sets}
use Rattle.index_write.specs.declared.fault.SaveFault.{SaveFault}
use Rattle.index_write.specs.declared.fault.SaveFault.TheVariants.{TooLarge, WriteFault, NoMemory}
use Rattle.jass_base.specs.declared.limits.TheConstants.{LONGEST_FILE}

-- a fault of a text that is made in memory where it has at most so many bytes: it has more, or it hasn't and memory was refused
abbrev pub UnmadeWithin : ℕ → List ℕ → SaveFault → Type 0
UnmadeWithin most text (TooLarge n) = (length text ≡ n) × (most < n)
UnmadeWithin most text WriteFault = ⊥
UnmadeWithin most text NoMemory = length text ≤ most

-- the same of a text of at most 2^32 bytes
abbrev pub Unmade : List ℕ → SaveFault → Type 0
Unmade text fault = UnmadeWithin LONGEST_FILE text fault

-- a fault of a text that is written to a file: it has more than 2^32 bytes; where it hasn't, writing failed or memory was refused
abbrev pub Unwritten : List ℕ → SaveFault → Type 0
Unwritten text (TooLarge n) = (length text ≡ n) × (LONGEST_FILE < n)
Unwritten text WriteFault = length text ≤ LONGEST_FILE
Unwritten text NoMemory = length text ≤ LONGEST_FILE

-- the contents are as before, or the name has a prefix of the text and every other name stays
abbrev pub LeavesPrefix : Option Files → Option Files → List ℕ → List ℕ → Type 0
LeavesPrefix old new name text = (new ≡ old) ⊎ ((n : ℕ) × Sets old new name (take n text))

-- nothing was touched, unless it was writing that failed
abbrev pub Untouched : {C : Type 0} → C → C → SaveFault → Type 0
Untouched old new (TooLarge n) = new ≡ old
Untouched old new WriteFault = ⊤
Untouched old new NoMemory = new ≡ old
