use Rattle.std.proofs.Common.{ℕ, List, set, ap, ◌∙◌, length-set}
use Rattle.frame_pool.specs.Frames.{Frame}
use Rattle.frame_pool.specs.Private.Tables.{frame_at}
use Rattle.frame_pool.proofs.Rows.{whole}
use Rattle.frame_pool.proofs.store.FrameStore.set_score.Goals as goal

pub returns : goal.returns
returns c =
    let was : Frame = frame_at c.args.self.now c.args.frame in let row : List ℕ = c.scores_mut.result.now in
    ap (λ (xs : List ℕ). set c.args.self.now c.args.frame (record was { scores = xs }))
    (whole (set row c.args.slot c.args.score) (length-set row c.args.slot c.args.score ∙ c.scores_mut.ensures.slots)
    ∙ ap (λ (xs : List ℕ). set xs c.args.slot c.args.score) c.scores_mut.ensures.scores)
