-- The numbers of the faults of a field. This project's.
use Rattle.std.specs.Prelude.{ℕ}
use Rattle.wire_fields.specs.declared.fault.WireWhy.{WireWhy}
use Rattle.wire_fields.specs.declared.fault.WireWhy.TheVariants.{Cut, LongVarint, BadWire, FieldNumber}

abbrev pub fault_number : WireWhy → ℕ
fault_number Cut = 1
fault_number LongVarint = 2
fault_number BadWire = 3
fault_number FieldNumber = 4
