use Rattle.std.proofs.Common.{rules}
use Rattle.frame_pool.proofs.Views.{sound_view}
use Rattle.frame_pool.proofs.New.{new-pool, new-unused}
use Rattle.frame_pool.proofs.pool.FramePool.new.Goals as goal

pub invariant_of-result : goal.invariant_of-result
invariant_of-result c =
    new-pool c.args.frames c.args.chains _ _ c.requires.frames c.requires.chains c.in_ok-frames.ensures (c.in-Ok.ensures.items_if_clones_equal (λ y h. search rules))

pub returns-in-Ok : goal.returns-in-Ok
returns-in-Ok c = record {
  unused = new-unused c.args.frames c.args.chains _ _ c.in_ok-frames.ensures (c.in-Ok.ensures.items_if_clones_equal (λ y h. search rules));
  sound = sound_view _ _ _ _ (new-pool c.args.frames c.args.chains _ _ c.requires.frames c.requires.chains c.in_ok-frames.ensures (c.in-Ok.ensures.items_if_clones_equal (λ y h. search rules)));
}
