-- The sort leaves the hits in order, and no order of them is another.
use Rattle.shared_lemmas.proofs.Common.{rules, ℕ, answers_always, Reverse}
use Rattle.jass_base.specs.declared.answer.Hit.{Hit}
use Rattle.ranking_model.specs.Scores.{rank_cmp}
use Rattle.ranking_model.proofs.Sorting.{sort_is_sorted}
use Rattle.ranking_model.proofs.Orders.{rank_total, rank_same}
use Rattle.max_score.proofs.candidates.rank.Goals as goal

abbrev key : Hit → Reverse ℕ × ℕ
key h = (record { 0 = h.score }, h.doc)

pub returns-clause-items : goal.returns-clause-items
returns-clause-items c = sort_is_sorted rank_cmp rank_total rank_same c.args.hits.now.items c.sort_unstable_by_key.new.self.items
    c.sort_unstable_by_key.ensures.permutation (c.sort_unstable_by_key.ensures.sorted key (answers_always _ _ _ (λ f a r f' called. search rules)))
