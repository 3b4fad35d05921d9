use Rattle.std.proofs.Common.{drop, map}
use Rattle.index_layout.specs.Layout.{heads_bytes}
use Rattle.index_write.specs.Chosen.{head_data}
use Rattle.index_write.proofs.Sending.{AddsUpTo}
use Rattle.index_write.proofs.pieced_front.put_heads.Given as goal

abbrev pub invariant-loop-head : goal.invariant-loop-head
invariant-loop-head g l =
    AddsUpTo g.C.Cabinet l.fn.files l.files l.file l.fn.pieces l.pieces (heads_bytes (map head_data l.heads)) (heads_bytes (map head_data (drop l.head-index l.heads)))
