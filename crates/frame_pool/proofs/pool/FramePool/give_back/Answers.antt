use Rattle.frame_pool.proofs.Views.{sound_view, sound_pool}
use Rattle.frame_pool.proofs.Takes.{lease_there, last_owned, gave-at, gives-others, gives-spare}
use Rattle.frame_pool.proofs.pool.FramePool.give_back.Goals as goal

pub release-self-inside-requires : goal.release-self-inside-requires
release-self-inside-requires c =
    λ some. (last_owned _ _ _ _ c.self.invariant _ _ (lease_there _ _ c.args.self.now c.self.view_is _ _ _ _ c.chain.view_is c.requires c.index.ensures c.in-Some.is) some).0

pub invariant_of-self : goal.invariant_of-self
invariant_of-self c =
    (gave-at _ _ _ _ _ c.self.invariant c.self.view_is _ _ _ _ _ _ c.chain.view_is c.requires c.index.ensures c.in-Some.is c.release-self-inside.ensures.frames c.release-self-inside.ensures.first).0

pub returns : goal.returns
returns c =
    let gave = gave-at _ _ _ _ _ c.self.invariant c.self.view_is _ _ _ _ _ _ c.chain.view_is c.requires c.index.ensures c.in-Some.is c.release-self-inside.ensures.frames c.release-self-inside.ensures.first in
    let gives = gave.1 in
    record {
      frames = gives.frames;
      chains = gives.chains;
      others = gives-others _ _ _ gives;
      spare = gives-spare _ _ _ gives (sound_pool _ _ _ _ _ c.self.invariant c.self.view_is);
      sound = sound_view _ _ _ _ gave.0;
    }
