use Rattle.std.proofs.Common.{sym, ap, ◌∙◌, arith}
use Rattle.frame_pool.specs.declared.store.Head.{Head}
use Rattle.frame_pool.proofs.Rows.{inside_all, row_at, cleared_set}
use Rattle.frame_pool.proofs.store.FrameStore.clear.Goals as goal

pub index_mut-requires : goal.index_mut-requires
index_mut-requires c = omega (arith, (inside_all _ _ _ _ c.args.frame c.self.invariant c.self.view_is c.requires).1, c.self.inside.scores.ok.0)

pub index_mut-requires-2 : goal.index_mut-requires-2
index_mut-requires-2 c = omega (arith, (inside_all _ _ _ _ c.args.frame c.self.invariant c.self.view_is c.requires).2, c.self.inside.places.ok.0)

pub index-requires : goal.index-requires
index-requires c = omega (arith, (inside_all _ _ _ _ c.args.frame c.self.invariant c.self.view_is c.requires).0, c.self.inside.heads.ok.0)

pub clear_places-requires : goal.clear_places-requires
clear_places-requires c = λ unset. c.index_mut-2.ensures.value
    ∙ (row_at _ _ _ c.args.frame c.index.result.now c.index_mut-2.result.now c.self.invariant (inside_all _ _ _ _ c.args.frame c.self.invariant c.self.view_is c.requires).0).unset (sym (ap (λ (h : Head). h.placed) c.index.ensures) ∙ unset)

pub index_mut-requires-3 : goal.index_mut-requires-3
index_mut-requires-3 c = omega (arith, (inside_all _ _ _ _ c.args.frame c.self.invariant c.self.view_is c.requires).0, c.self.inside.heads.ok.0)

pub invariant_of-self : goal.invariant_of-self
invariant_of-self c =
    (cleared_set _ _ _ _ c.args.frame c.self.invariant c.self.view_is c.requires c.args.page c.args.next c.clear_scores.new.scores c.clear_places.new.places c.clear_scores.ensures c.clear_places.ensures).rows

pub returns : goal.returns
returns c =
    (cleared_set _ _ _ _ c.args.frame c.self.invariant c.self.view_is c.requires c.args.page c.args.next c.clear_scores.new.scores c.clear_places.new.places c.clear_scores.ensures c.clear_places.ensures).view
