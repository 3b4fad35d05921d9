use Rattle.shared_lemmas.proofs.Common.{rules, ◌∙◌, length, answers_always, ranks_by, is_lt}
use Rattle.topk_heap.proofs.Below.{Hit, rank_cmp, rank_total}
use Rattle.topk_heap.proofs.Selection.{selected_are_first}
use Rattle.topk_heap.proofs.hits.select_first.Goals as goal

pub returns-clause-first : goal.returns-clause-first
returns-clause-first c =
    let selected = c.select_nth_unstable_by-front.ensures in let found = c.select_nth_unstable_by-front.result in
    c.copy_from_slice.ensures.after ∙ c.rank.ensures.hits
    ∙ selected_are_first c.args.hits.now found.0.now found.1.now found.2.now (length c.args.first.now) selected.permutation
    (selected.partitioned (λ x y. is_lt (rank_cmp x y)) (ranks_by rank_total (λ (hit : Hit). hit)) (answers_always _ _ _ (λ f a r f' called. search rules))) selected.front_len
