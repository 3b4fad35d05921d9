use Rattle.std.proofs.Common.{[], drop, map}
use Rattle.index_layout.specs.Layout.{terms_bytes}
use Rattle.index_write.specs.Streaming.{entry_data}
use Rattle.index_write.proofs.Sending.{AddsUpTo}
use Rattle.index_write.proofs.pieced_front.put_entries.Given as goal

abbrev pub invariant-loop-entry : goal.invariant-loop-entry
invariant-loop-entry g l =
    AddsUpTo g.C.Cabinet l.fn.files l.files l.file l.fn.pieces l.pieces (terms_bytes [] (map entry_data l.entries)) (terms_bytes l.before (map entry_data (drop l.entry-index l.entries)))
