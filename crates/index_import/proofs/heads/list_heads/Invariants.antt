use Rattle.std.proofs.Common.{◌≡◌, map, take}
use Rattle.index_import.proofs.Below.{chosen_heads, head_data}
use Rattle.index_import.proofs.heads.list_heads.Given as goal

abbrev pub invariant-loop-index : goal.invariant-loop-index
invariant-loop-index l = map head_data l.heads ≡ chosen_heads l.docs (take l.index l.segments)
