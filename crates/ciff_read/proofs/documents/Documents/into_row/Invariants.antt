use Rattle.std.proofs.Common.{◌≡◌}
use Rattle.ciff_read.specs.Private.Table.{table_with}
use Rattle.ciff_read.proofs.documents.Documents.into_row.Given as goal

abbrev pub invariant-records : goal.invariant-records
invariant-records l = l.table.records.items ≡ table_with l.yielded
