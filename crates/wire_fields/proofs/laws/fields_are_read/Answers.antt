use Rattle.wire_fields.proofs.FieldLaws.{field_stands, field_again}
use Rattle.wire_fields.proofs.laws.fields_are_read.Goals as goal

pub returns : goal.returns
returns c = record { found = λ bytes rest f is. field_stands bytes f rest is; only = λ s rest f is. field_again s rest f is }
