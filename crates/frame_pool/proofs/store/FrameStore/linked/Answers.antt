use Rattle.frame_pool.proofs.Rows.{new_tables}
use Rattle.frame_pool.proofs.store.FrameStore.linked.Goals as goal

pub invariant_of-result : goal.invariant_of-result
invariant_of-result c = (new_tables c.args.count _ _ _ c.in_ok-heads.ensures c.in_ok-scores.ensures c.in_ok-places.ensures).0

pub returns : goal.returns
returns c = (new_tables c.args.count _ _ _ c.in_ok-heads.ensures c.in_ok-scores.ensures c.in_ok-places.ensures).1
