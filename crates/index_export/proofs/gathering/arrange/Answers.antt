-- The sort is stable, so it leaves what sorting by insertion leaves.
use Rattle.shared_lemmas.proofs.Common.{rules, ℕ, on_total, nat_cmp_total, answers_always}
use Rattle.jass_base.specs.declared.posting.Posting.{Posting}
use Rattle.ranking_model.proofs.Sorting.{stable_is_sorted}
use Rattle.index_export.specs.Exports.{doc_cmp}
use Rattle.index_export.proofs.gathering.arrange.Goals as goal

abbrev key : Posting → ℕ
key p = p.doc

pub returns-in-Ok : goal.returns-in-Ok
returns-in-Ok c = stable_is_sorted doc_cmp (on_total key nat_cmp_total) c.args.postings.now.items c.sort_by_key.new.self.items
    (c.in-Ok.ensures.sorted key (answers_always _ _ _ (λ f a r f' called. search rules)))
    (c.in-Ok.ensures.stable key (answers_always _ _ _ (λ f a r f' called. search rules)))
