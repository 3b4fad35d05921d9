use Rattle.std.proofs.Common.{arith}
use Rattle.frame_pool.proofs.Rows.{inside_all, link_set}
use Rattle.frame_pool.proofs.store.FrameStore.link.Goals as goal

pub index_mut-requires : goal.index_mut-requires
index_mut-requires c = omega (arith, (inside_all _ _ _ _ c.args.frame c.self.invariant c.self.view_is c.requires).0, c.self.inside.heads.ok.0)

pub invariant_of-self : goal.invariant_of-self
invariant_of-self c = (link_set _ _ _ _ c.args.frame c.self.invariant c.self.view_is c.requires c.args.next c.index_mut.result.now c.index_mut.ensures.value).rows

pub returns : goal.returns
returns c = (link_set _ _ _ _ c.args.frame c.self.invariant c.self.view_is c.requires c.args.next c.index_mut.result.now c.index_mut.ensures.value).view
