use Rattle.std.proofs.Common.{◌≡◌, ◌+◌, ◌-◌, ◌≤◌, ◌++◌, length, replicate}
use Rattle.ciff_read.proofs.doc_set.DocSet.insert.Given as goal

abbrev pub invariant-reaching : goal.invariant-reaching
invariant-reaching l = record {
  same : l.self.words.items ≡ l.fn.self.words.items ++ replicate (length l.self.words.items - length l.fn.self.words.items) 0;
  longer : length l.fn.self.words.items ≤ length l.self.words.items;
}

abbrev pub decreases-reaching : goal.decreases-reaching
decreases-reaching l = l.place + 1 - length l.self.words.items
