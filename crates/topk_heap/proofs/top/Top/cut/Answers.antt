use Rattle.shared_lemmas.proofs.Common.{ap}
use Rattle.topk_heap.specs.Standing.{TopView}
use Rattle.topk_heap.proofs.Rows.{docs_scored}
use Rattle.topk_heap.proofs.Settled.{docs_gathered, few_gathered, next_gathered, noted_within}
use Rattle.topk_heap.proofs.top.Top.cut.Goals as goal

pub add_noted-requires-clause-inside : goal.add_noted-requires-clause-inside
add_noted-requires-clause-inside c = noted_within _ _ _ _ c.requires.touched c.as_slice.ensures.docs (docs_scored c.args.pages.now c.args.pool.now)

pub returns-clause-next : goal.returns-clause-next
returns-clause-next c =
    next_gathered _ _ c.args.self.now c.clear.new.self.hits c.add_noted.new.candidates.hits c.self.inside.k c.requires.touched c.requires.once c.requires.first c.as_slice.ensures.docs
    c.clear.ensures.hits c.add_noted.ensures.hits (ap (λ (t : TopView). t.k) c.self.view_is) _ c.select.ensures.hit

pub returns-clause-first : goal.returns-clause-first
returns-clause-first c =
    docs_gathered _ _ c.args.self.now c.clear.new.self.hits c.add_noted.new.candidates.hits c.self.inside.k c.requires.touched c.requires.once c.requires.first c.as_slice.ensures.docs
    c.clear.ensures.hits c.add_noted.ensures.hits (ap (λ (t : TopView). t.k) c.self.view_is) _ c.select.ensures.docs

pub returns-clause-few : goal.returns-clause-few
returns-clause-few c =
    few_gathered _ _ c.args.self.now c.clear.new.self.hits c.add_noted.new.candidates.hits c.self.inside.k c.requires.touched c.requires.once c.requires.first c.as_slice.ensures.docs
    c.clear.ensures.hits c.add_noted.ensures.hits (ap (λ (t : TopView). t.k) c.self.view_is) _ c.select.ensures.docs
