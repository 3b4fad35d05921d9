use Rattle.wire_fields.proofs.Varints.{SoFar}
use Rattle.wire_fields.proofs.varint.read_groups.Given as goal

abbrev pub invariant-loop-group : goal.invariant-loop-group
invariant-loop-group l = SoFar l.rest l.group l.value l.scale
