-- What is read of a field at a place of the bytes.
use Rattle.std.specs.Prelude.{ℕ, ◌≡◌, ◌≤◌, List, length, drop, Result, Ok, Err}
use Rattle.wire_fields.specs.declared.fault.WireWhy.{WireWhy}
use Rattle.wire_fields.specs.declared.field.Value.{Value}
use Rattle.wire_fields.specs.Reading.{value_at}
use Rattle.wire_fields.specs.Places.{IsWithin, value_in}

-- the value at a place is read, and the place behind it given
abbrev pub ReadsValue : ℕ → List ℕ → ℕ → Result (Value × ℕ) WireWhy → Type 0
ReadsValue wire bytes at (Ok x) = (value_at wire (drop at bytes) ≡ Ok (value_in bytes x.0, drop x.1 bytes)) × (at ≤ x.1) × (x.1 ≤ length bytes) × IsWithin x.0 x.1
ReadsValue wire bytes at (Err why) = value_at wire (drop at bytes) ≡ Err why
