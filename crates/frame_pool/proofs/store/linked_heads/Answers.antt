use Rattle.shared_lemmas.proofs.Common.{◌+◌, List, ◌∷◌, ◌++◌, [], ap, ◌∙◌, sym, arith, map-range_with_len_more}
use Rattle.frame_pool.specs.declared.store.Head.{Head}
use Rattle.frame_pool.specs.Private.Tables.{free_head}
use Rattle.frame_pool.proofs.store.linked_heads.Goals as goal

pub loop-number-preserved : goal.loop-number-preserved
loop-number-preserved c = c.in_ok-push.ensures.items ∙ ap (λ (hs : List Head). hs ++ free_head (c.loop-number.number + 1) ∷ []) c.loop-number.invariant
    ∙ sym (map-range_with_len_more free_head 1 c.loop-number.number (c.loop-number.number + 1) (omega arith))
