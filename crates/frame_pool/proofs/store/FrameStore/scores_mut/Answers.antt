use Rattle.std.proofs.Common.{◌≡◌, ℕ, List, length, refl, ap, ◌∙◌, arith}
use Rattle.frame_pool.proofs.Rows.{inside_all, same_read, scores_read, scores_set}
use Rattle.frame_pool.proofs.store.FrameStore.scores_mut.Goals as goal

pub index-requires : goal.index-requires
index-requires c = omega (arith, (inside_all _ _ _ _ c.args.frame c.self.invariant c.self.view_is c.requires).1, c.self.inside.scores.ok.0)

pub index_mut-requires : goal.index_mut-requires
index_mut-requires c = omega (arith, (inside_all _ _ _ _ c.args.frame c.self.invariant c.self.view_is c.requires).1, c.self.inside.scores.ok.0)

pub invariant_of-self-lent : goal.invariant_of-self-lent
invariant_of-self-lent c w = (scores_set _ _ _ _ c.args.frame c.self.invariant c.self.view_is c.requires w).rows

pub returns : goal.returns
returns c =
    let same : c.index_mut.result.now ≡ c.index.result.now =
    same_read c.self.inside.scores.items c.args.frame _ _ (inside_all _ _ _ _ c.args.frame c.self.invariant c.self.view_is c.requires).1 c.index_mut.ensures.value c.index.ensures in
    let size : length c.index_mut.result.now ≡ 256 = ap (λ (xs : List ℕ). length xs) same ∙ c.a_row_is_whole.ensures in (
      (refl, λ w. (scores_set _ _ _ _ c.args.frame c.self.invariant c.self.view_is c.requires w).view),
      record {
        writes_back = tt;
        scores = scores_read _ _ _ _ c.args.frame c.index_mut.result.now c.self.invariant c.self.view_is c.requires c.index_mut.ensures.value size;
        slots = size;
      },
    )
