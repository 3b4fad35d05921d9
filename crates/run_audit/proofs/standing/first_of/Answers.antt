use Rattle.shared_lemmas.proofs.Common.{rules, ◌∙◌, ap, take, answers_always, ranks_by, is_lt, subst, ◌≡◌, List, length, sym, IfOk, take_all, arith}
use Rattle.jass_base.specs.declared.answer.Hit.{Hit}
use Rattle.ranking_model.specs.Order.{sorted}
use Rattle.ranking_model.specs.Scores.{rank_cmp}
use Rattle.ranking_model.proofs.Orders.{rank_total}
use Rattle.run_audit.proofs.Selected.{selected_are_first}
use Rattle.run_audit.proofs.standing.first_of.Goals as goal

pub returns-clause-first : goal.returns-clause-first
returns-clause-first c =
    let selected = c.select_nth_unstable_by-front.ensures in
    let found = c.select_nth_unstable_by-front.result in
    subst (λ (hits : List Hit). IfOk c.copy_of-2.result (λ first. first ≡ hits))
    (c.rank-2.ensures ∙ selected_are_first c.args.hits.now found.0.now found.1.now found.2.now c.args.count selected.permutation
    (selected.partitioned (λ x y. is_lt (rank_cmp x y)) (ranks_by rank_total (λ (hit : Hit). hit)) (answers_always _ _ _ (λ f a r f' called. search rules))) selected.front_len)
    c.copy_of-2.ensures
