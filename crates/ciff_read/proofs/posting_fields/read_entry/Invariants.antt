use Rattle.std.proofs.Common.{◌-◌, length}
use Rattle.ciff_read.specs.Walking.{nothing_inside}
use Rattle.ciff_read.proofs.FieldValues.{IsEntry}
use Rattle.ciff_read.proofs.Walks.{Walks}
use Rattle.ciff_read.proofs.posting_fields.read_entry.Given as goal

abbrev pub invariant-fields : goal.invariant-fields
invariant-fields l = Walks nothing_inside l.bytes l.from l.at (IsEntry l.entry)

abbrev pub decreases-fields : goal.decreases-fields
decreases-fields l = length l.bytes - l.at
