use Rattle.std.proofs.Common.{arith}
use Rattle.frame_pool.proofs.Rows.{inside_all, place_set}
use Rattle.frame_pool.proofs.store.FrameStore.set_place.Goals as goal

pub index_mut-requires : goal.index_mut-requires
index_mut-requires c = omega (arith, (inside_all _ _ _ _ c.args.frame c.self.invariant c.self.view_is c.requires).0, c.self.inside.heads.ok.0)

pub index_mut-requires-2 : goal.index_mut-requires-2
index_mut-requires-2 c = omega (arith, (inside_all _ _ _ _ c.args.frame c.self.invariant c.self.view_is c.requires).2, c.self.inside.places.ok.0)

pub invariant_of-self : goal.invariant_of-self
invariant_of-self c =
    (place_set _ _ _ _ c.args.frame c.self.invariant c.self.view_is c.requires c.args.slot c.args.place c.index_mut.result.now c.index_mut-2.result.now c.index_mut.ensures.value c.index_mut-2.ensures.value).rows

pub returns : goal.returns
returns c =
    (place_set _ _ _ _ c.args.frame c.self.invariant c.self.view_is c.requires c.args.slot c.args.place c.index_mut.result.now c.index_mut-2.result.now c.index_mut.ensures.value c.index_mut-2.ensures.value).view
