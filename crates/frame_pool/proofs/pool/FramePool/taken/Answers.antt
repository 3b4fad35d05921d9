use Rattle.frame_pool.proofs.Views.{sound_pool}
use Rattle.frame_pool.proofs.Takes.{lease_there}
use Rattle.frame_pool.proofs.Readings.{taken-count}
use Rattle.frame_pool.proofs.pool.FramePool.taken.Goals as goal

pub returns : goal.returns
returns c = record {
  taken = taken-count _ _ c.args.self.now c.self.view_is _ _ (lease_there _ _ c.args.self.now c.self.view_is _ _ _ _ c.chain.view_is c.requires c.index.ensures c.in-Some.is);
  sound = sound_pool _ _ _ _ _ c.self.invariant c.self.view_is;
}
