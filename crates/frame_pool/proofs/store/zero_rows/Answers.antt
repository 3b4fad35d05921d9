use Rattle.shared_lemmas.proofs.Common.{ℕ, List, ◌∷◌, ◌++◌, [], replicate, ap, ◌∙◌, replicate-append-replicate}
use Rattle.frame_pool.proofs.store.zero_rows.Goals as goal

pub loop-preserved : goal.loop-preserved
loop-preserved c = c.in_ok-push.ensures.items ∙ ap (λ (rows : List (List ℕ)). rows ++ replicate 256 0 ∷ []) c.loop.invariant
    ∙ replicate-append-replicate c.loop.counter 1 (replicate 256 0)
