use Rattle.wire_fields.proofs.VarintLaws.{varint_stands, varint_again}
use Rattle.wire_fields.proofs.laws.varints_are_read.Goals as goal

pub returns : goal.returns
returns c = record { found = λ bytes rest n is. varint_stands bytes n rest is; only = λ s rest n is. varint_again s rest n is }
