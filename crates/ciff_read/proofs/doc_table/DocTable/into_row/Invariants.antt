use Rattle.std.proofs.Common.{◌≡◌}
use Rattle.ciff_read.specs.Private.Table.{values_of}
use Rattle.ciff_read.proofs.doc_table.DocTable.into_row.Given as goal

abbrev pub invariant-records : goal.invariant-records
invariant-records l = l.row ≡ values_of l.yielded
