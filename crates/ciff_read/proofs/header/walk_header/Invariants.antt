use Rattle.std.proofs.Common.{◌-◌, length}
use Rattle.ciff_read.specs.Walking.{nothing_inside}
use Rattle.ciff_read.proofs.FieldValues.{IsHead}
use Rattle.ciff_read.proofs.Walks.{Walks}
use Rattle.ciff_read.proofs.header.walk_header.Given as goal

abbrev pub invariant-fields : goal.invariant-fields
invariant-fields l = Walks nothing_inside l.bytes l.from l.at (IsHead l.fields)

abbrev pub decreases-fields : goal.decreases-fields
decreases-fields l = length l.bytes - l.at
