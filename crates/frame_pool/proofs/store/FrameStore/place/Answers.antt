use Rattle.std.proofs.Common.{ℕ, List, [], get_or, sym, ap, ◌∙◌, arith}
use Rattle.frame_pool.specs.Frames.{Frame}
use Rattle.frame_pool.specs.Private.Tables.{free_head}
use Rattle.frame_pool.proofs.Rows.{inside_all, frame_there}
use Rattle.frame_pool.proofs.store.FrameStore.place.Goals as goal

pub index-requires : goal.index-requires
index-requires c = omega (arith, (inside_all _ _ _ _ c.args.frame c.self.invariant c.self.view_is c.requires).2, c.self.inside.places.ok.0)

pub returns : goal.returns
returns c = ap (λ (row : List ℕ). get_or row c.args.slot 0)
    (c.index.ensures ∙ sym (ap (λ (x : Frame). x.places) (frame_there _ _ _ _ c.args.frame (free_head 0) [] c.index.result.now c.self.invariant c.self.view_is c.requires)))
