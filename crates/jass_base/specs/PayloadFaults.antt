-- The numbers of the refusals of a payload. This project's.
use Rattle.std.specs.Prelude.{ℕ}
use Rattle.jass_base.specs.declared.payload_fault.PayloadFault.{PayloadFault}
use Rattle.jass_base.specs.declared.payload_fault.PayloadFault.TheVariants.{Cut, Longer, Shape, DocRange}

abbrev pub fault_number : PayloadFault → ℕ
fault_number Cut = 30
fault_number Longer = 31
fault_number Shape = 32
fault_number DocRange = 33
