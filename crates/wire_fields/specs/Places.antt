-- What is read at a place of the bytes.
use Rattle.std.specs.Prelude.{ℕ, ◌≡◌, ◌≤◌, ◌<◌, ◌+◌, ◌^◌, List, length, drop, Result, Ok, Err, Option, Some, None, slice_range}
use Rattle.jass_base.specs.Wire as wire
use Rattle.wire_fields.specs.declared.fault.WireFault.{WireFault}
use Rattle.wire_fields.specs.declared.field.Field.{Field}
use Rattle.wire_fields.specs.declared.field.Value.{Value}
use Rattle.wire_fields.specs.declared.field.Value.TheVariants.{Varint, Eight, Bytes, Four}
use Rattle.wire_fields.specs.Reading.{varint_at, field_at}

-- the bytes of the value end at the place behind the field
abbrev pub IsWithin : Value → ℕ → Type 0
IsWithin (Varint n) next = n < 2 ^ 64
IsWithin (Eight from) next = next ≡ from + 8
IsWithin (Bytes from after) next = (from ≤ after) × (after ≡ next)
IsWithin (Four from) next = next ≡ from + 4

-- the value without its places
abbrev pub value_in : List ℕ → Value → wire.WireValue
value_in bytes (Varint n) = wire.Number n
value_in bytes (Eight from) = wire.Eight (slice_range bytes from (from + 8))
value_in bytes (Bytes from after) = wire.Text (slice_range bytes from after)
value_in bytes (Four from) = wire.Four (slice_range bytes from (from + 4))

-- the field without its places
abbrev pub field_in : List ℕ → Field → wire.WireField
field_in bytes f = record { number = f.number; value = value_in bytes f.value }

-- the varint at a place is read, and the place behind it given
abbrev pub ReadsVarint : List ℕ → ℕ → Result (ℕ × ℕ) WireFault → Type 0
ReadsVarint bytes at (Ok x) = (varint_at (drop at bytes) ≡ Ok (x.0, drop x.1 bytes)) × (at < x.1) × (x.1 ≤ length bytes) × (x.0 < 2 ^ 64)
ReadsVarint bytes at (Err fault) = (varint_at (drop at bytes) ≡ Err fault.why) × (fault.at ≡ at)

-- the field at a place is read, and the place behind it given
abbrev pub ReadsField : List ℕ → ℕ → Result (Option Field) WireFault → Type 0
ReadsField bytes at (Ok None) = at ≡ length bytes
ReadsField bytes at (Ok (Some f)) = (field_at (drop at bytes) ≡ Ok (field_in bytes f, drop f.next bytes)) × (at < f.next) × (f.next ≤ length bytes) × IsWithin f.value f.next
ReadsField bytes at (Err fault) = (field_at (drop at bytes) ≡ Err fault.why) × (at < length bytes) × (fault.at ≡ at)
