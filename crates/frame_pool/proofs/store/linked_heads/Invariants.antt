use Rattle.shared_lemmas.proofs.Common.{◌≡◌, map, range_with_len}
use Rattle.frame_pool.specs.Private.Tables.{free_head}
use Rattle.frame_pool.proofs.store.linked_heads.Given as goal

abbrev pub invariant-loop-number : goal.invariant-loop-number
invariant-loop-number l = l.heads.items ≡ map free_head (range_with_len 1 l.number)
