use Rattle.std.proofs.Common.{List, length, ap, arith}
use Rattle.frame_pool.specs.Frames.{Frame}
use Rattle.frame_pool.proofs.Rows.{length-frames}
use Rattle.frame_pool.proofs.store.FrameStore.len.Goals as goal

pub returns : goal.returns
returns c = omega (arith, c.len.ensures, c.self.inside.heads.ok.0, length-frames _ _ _ c.self.invariant, ap (λ (fs : List Frame). length fs) c.self.view_is)
