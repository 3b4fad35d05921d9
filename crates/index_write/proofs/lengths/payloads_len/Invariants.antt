use Rattle.std.proofs.Common.{◌≡◌, take, sum_by}
use Rattle.index_write.specs.declared.head.PayloadHead.{PayloadHead}
use Rattle.index_write.proofs.lengths.payloads_len.Given as goal

abbrev pub invariant-loop-head : goal.invariant-loop-head
invariant-loop-head l = l.len ≡ sum_by (λ (h : PayloadHead). h.bytes) (take l.head-index l.heads)
