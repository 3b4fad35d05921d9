use Rattle.shared_lemmas.proofs.Common.{Some, None, cond, sym, ap, ◌∙◌, ne_eqb}
use Rattle.frame_pool.proofs.Takes.{lease_there}
use Rattle.frame_pool.proofs.Readings.{first-frame}
use Rattle.frame_pool.proofs.pool.FramePool.first.Goals as goal

pub returns-else-lease-eq0 : goal.returns-else-lease-eq0
returns-else-lease-eq0 c = record {
  first = sym (first-frame _ _ c.args.self.now c.self.view_is _ _ (lease_there _ _ c.args.self.now c.self.view_is _ _ _ _ c.chain.view_is c.requires c.index.ensures c.in-Some.is)
      ∙ ap (λ b. cond b None (Some c.in-Some.lease.first)) (ne_eqb c.in-Some.lease.taken 0 c.if-lease-eq0.false));
}
