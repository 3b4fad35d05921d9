-- The sort leaves the hits in order, and no order of them is another.
use Rattle.shared_lemmas.proofs.Common.{rules, answers_always, ranks_by, is_lt}
use Rattle.jass_base.specs.declared.answer.Hit.{Hit}
use Rattle.ranking_model.specs.Scores.{rank_cmp}
use Rattle.ranking_model.proofs.Orders.{rank_same, rank_total}
use Rattle.ranking_model.proofs.Sorting.{sort_is_sorted}
use Rattle.run_audit.proofs.standing.rank.Goals as goal

pub returns : goal.returns
returns c = sort_is_sorted rank_cmp rank_total rank_same c.args.hits.now c.sort_unstable_by.new.self c.sort_unstable_by.ensures.permutation
    (c.sort_unstable_by.ensures.sorted (λ x y. is_lt (rank_cmp x y)) (ranks_by rank_total (λ (hit : Hit). hit)) (answers_always _ _ _ (λ f a r f' called. search rules)))
