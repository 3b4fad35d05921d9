-- The sort leaves the hits in order, and no order of them is another.
use Rattle.shared_lemmas.proofs.Common.{rules, answers_always, ranks_by, is_lt}
use Rattle.topk_heap.proofs.Below.{Hit, rank_cmp, sort_is_sorted, rank_total, rank_same}
use Rattle.topk_heap.proofs.hits.rank_by_comparing.Goals as goal

pub returns : goal.returns
returns c = sort_is_sorted rank_cmp rank_total rank_same c.args.hits.now c.sort_unstable_by.new.self c.sort_unstable_by.ensures.permutation
    (c.sort_unstable_by.ensures.sorted (λ x y. is_lt (rank_cmp x y)) (ranks_by rank_total (λ (hit : Hit). hit)) (answers_always _ _ _ (λ f a r f' called. search rules)))
