use Rattle.ciff_write.proofs.Varints.{Spelled}
use Rattle.ciff_write.proofs.spelling.push_varint.Given as goal

abbrev pub invariant-groups : goal.invariant-groups
invariant-groups l = Spelled l.fn.buffer l.buffer l.value l.left

abbrev pub decreases-groups : goal.decreases-groups
decreases-groups l = l.left
