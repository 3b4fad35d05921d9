-- How a command that stopped ends the run, by its stop.
use Rattle.std.specs.Prelude.{ℕ, List}
use Rattle.jass_top.specs.declared.stop.Stop.{Stop}
use Rattle.jass_top.specs.declared.stop.Stop.TheVariants.{NoMemory, Refused, ReadFault, WriteFault, InputLimit}
use Rattle.jass_top.specs.declared.status.Status.{Status}
use Rattle.jass_top.specs.declared.status.Status.TheVariants as status
use Rattle.jass_top.specs.Stops.{memory_text, refusal_text, read_fault_text, write_fault_text, limit_text}

-- the status of the run
abbrev pub status_of : Stop → Status
status_of NoMemory = status.NoMemory
status_of (Refused name number at) = status.Refused
status_of (ReadFault name) = status.ReadFault
status_of (WriteFault name) = status.WriteFault
status_of InputLimit = status.InputLimit

-- the line of a command that stopped
abbrev pub stop_text : Stop → List ℕ
stop_text NoMemory = memory_text
stop_text (Refused name number at) = refusal_text name.now number at
stop_text (ReadFault name) = read_fault_text name.now
stop_text (WriteFault name) = write_fault_text name.now
stop_text InputLimit = limit_text
