-- How a command that stopped ends the run.
use Rattle.std.specs.Prelude.{ℕ, List, ◌++◌, decimal, codes}
use Rattle.jass_top.specs.declared.stop.Place.{Place}
use Rattle.jass_top.specs.declared.stop.Place.TheVariants.{Byte, Line}
use Rattle.jass_top.specs.declared.status.Status.{Status}
use Rattle.jass_top.specs.declared.status.Status.TheVariants as status

-- the program's exit status
abbrev pub exit_number : Status → ℕ
exit_number status.Done = 0
exit_number status.NoMemory = 1
exit_number status.Words = 2
exit_number status.Refused = 3
exit_number status.ReadFault = 4
exit_number status.WriteFault = 5
exit_number status.InputLimit = 6

-- the lines that are noted
abbrev pub memory_text : List ℕ
memory_text = codes "no memory\n"

abbrev pub word_text : ℕ → List ℕ
word_text which = codes "word " ++ (decimal which ++ codes "\n")

-- a byte, or a line
abbrev pub place_text : Place → List ℕ
place_text (Byte byte) = codes " at " ++ (decimal byte ++ codes "\n")
place_text (Line line) = codes " at line " ++ (decimal line ++ codes "\n")

abbrev pub refusal_text : List ℕ → ℕ → Place → List ℕ
refusal_text name number at = name ++ (codes ": refusal " ++ (decimal number ++ place_text at))

abbrev pub read_fault_text : List ℕ → List ℕ
read_fault_text name = name ++ codes ": read fault\n"

abbrev pub write_fault_text : List ℕ → List ℕ
write_fault_text name = name ++ codes ": write fault\n"

abbrev pub limit_text : List ℕ
limit_text = codes "input limit\n"
