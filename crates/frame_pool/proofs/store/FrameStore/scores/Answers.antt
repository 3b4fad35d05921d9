use Rattle.std.proofs.Common.{arith}
use Rattle.frame_pool.proofs.Rows.{inside_all, scores_read}
use Rattle.frame_pool.proofs.store.FrameStore.scores.Goals as goal

pub index-row-requires : goal.index-row-requires
index-row-requires c = omega (arith, (inside_all _ _ _ _ c.args.frame c.self.invariant c.self.view_is c.requires).1, c.self.inside.scores.ok.0)

pub returns : goal.returns
returns c = scores_read _ _ _ _ c.args.frame c.index-row.result.now c.self.invariant c.self.view_is c.requires c.index-row.ensures c.a_row_is_whole.ensures
