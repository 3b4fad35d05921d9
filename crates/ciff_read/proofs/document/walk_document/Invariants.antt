use Rattle.std.proofs.Common.{◌-◌, length}
use Rattle.ciff_read.specs.Walking.{nothing_inside}
use Rattle.ciff_read.proofs.FieldValues.{IsNumbered}
use Rattle.ciff_read.proofs.Walks.{Walks}
use Rattle.ciff_read.proofs.document.walk_document.Given as goal

abbrev pub invariant-fields : goal.invariant-fields
invariant-fields l = Walks nothing_inside l.bytes l.from l.at (IsNumbered l.fields)

abbrev pub decreases-fields : goal.decreases-fields
decreases-fields l = length l.bytes - l.at
