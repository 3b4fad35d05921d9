use Rattle.frame_pool.proofs.Views.{sound_pool}
use Rattle.frame_pool.proofs.pool.FramePool.spare.Goals as goal

pub returns-clause-sound : goal.returns-clause-sound
returns-clause-sound c = sound_pool _ _ _ _ _ c.self.invariant c.self.view_is
