use Rattle.ciff_write.proofs.Varints.{Counted}
use Rattle.ciff_write.proofs.lengths.varint_len.Given as goal

abbrev pub invariant-groups : goal.invariant-groups
invariant-groups l = Counted l.len l.value l.left

abbrev pub decreases-groups : goal.decreases-groups
decreases-groups l = l.left
