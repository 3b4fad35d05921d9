use Rattle.std.proofs.Common.{◌≡◌, ◌+◌, ◌-◌, ◌≤◌, ◌++◌, length, None, replicate}
use Rattle.ciff_read.proofs.doc_table.DocTable.put.Given as goal

abbrev pub invariant-reaching : goal.invariant-reaching
invariant-reaching l = record {
  same : l.self.records.items ≡ l.fn.self.records.items ++ replicate (length l.self.records.items - length l.fn.self.records.items) None;
  longer : length l.fn.self.records.items ≤ length l.self.records.items;
  enough : length l.self.records.items ≤ (l.place + 1 - length l.fn.self.records.items) + length l.fn.self.records.items;
}

abbrev pub decreases-reaching : goal.decreases-reaching
decreases-reaching l = l.place + 1 - length l.self.records.items
