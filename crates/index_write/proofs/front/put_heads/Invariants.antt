use Rattle.std.proofs.Common.{◌≡◌, ◌++◌, length, take, map}
use Rattle.index_layout.specs.Bytes.{u32_bytes}
use Rattle.index_layout.specs.Layout.{heads_bytes}
use Rattle.index_write.specs.Chosen.{head_data}
use Rattle.index_write.proofs.front.put_heads.Given as goal

abbrev pub invariant-loop-head : goal.invariant-loop-head
invariant-loop-head l =
    l.out ++ l.waiting ≡ (l.fn.out ++ u32_bytes (length l.heads)) ++ heads_bytes (map head_data (take l.head-index l.heads))
