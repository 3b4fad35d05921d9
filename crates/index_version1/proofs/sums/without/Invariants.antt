use Rattle.std.proofs.Common.{◌≡◌, ◌+◌, take, sum_by}
use Rattle.index_version1.specs.declared.head.Head.{Head}
use Rattle.index_version1.proofs.sums.without.Given as goal

abbrev pub invariant-loop-head : goal.invariant-loop-head
invariant-loop-head l = l.left + sum_by (λ (h : Head). h.count) (take l.head-index l.heads) ≡ l.postings
