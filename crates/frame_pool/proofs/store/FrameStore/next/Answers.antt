use Rattle.std.proofs.Common.{[], sym, ap, ◌∙◌, arith}
use Rattle.frame_pool.specs.declared.store.Head.{Head}
use Rattle.frame_pool.specs.Frames.{Frame}
use Rattle.frame_pool.proofs.Rows.{inside_all, frame_there}
use Rattle.frame_pool.proofs.store.FrameStore.next.Goals as goal

pub index-requires : goal.index-requires
index-requires c = omega (arith, (inside_all _ _ _ _ c.args.frame c.self.invariant c.self.view_is c.requires).0, c.self.inside.heads.ok.0)

pub returns : goal.returns
returns c = ap (λ (h : Head). h.next) c.index.ensures
    ∙ sym (ap (λ (x : Frame). x.next) (frame_there _ _ _ _ c.args.frame c.index.result.now [] [] c.self.invariant c.self.view_is c.requires))
