use Rattle.std.proofs.Common.{◌≡◌, ◌+◌, [], length, drop, map}
use Rattle.index_layout.specs.Layout.{terms_bytes}
use Rattle.index_write.specs.Streaming.{entry_data}
use Rattle.index_write.proofs.lengths.entries_len.Given as goal

abbrev pub invariant-loop-entry : goal.invariant-loop-entry
invariant-loop-entry l =
    l.len + length (terms_bytes l.before (map entry_data (drop l.entry-index l.entries))) ≡ length (terms_bytes [] (map entry_data l.entries))
