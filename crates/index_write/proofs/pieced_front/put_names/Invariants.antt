use Rattle.std.proofs.Common.{drop}
use Rattle.index_layout.specs.Layout.{names_bytes}
use Rattle.index_write.proofs.Sending.{AddsUpTo}
use Rattle.index_write.proofs.pieced_front.put_names.Given as goal

abbrev pub invariant-loop-name : goal.invariant-loop-name
invariant-loop-name g l =
    AddsUpTo g.C.Cabinet l.fn.files l.files l.file l.fn.pieces l.pieces (names_bytes l.names) (names_bytes (drop l.name-index l.names))
