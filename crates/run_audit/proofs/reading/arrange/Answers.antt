-- The sort is stable, so it leaves what sorting by insertion leaves.
use Rattle.shared_lemmas.proofs.Common.{rules, ℕ, length, answers_always, Reverse}
use Rattle.ranking_model.specs.declared.plan_segment.PlanSegment.{PlanSegment}
use Rattle.ranking_model.specs.Plan.{plan_cmp}
use Rattle.ranking_model.proofs.Sorting.{stable_is_sorted}
use Rattle.ranking_model.proofs.Orders.{plan_total}
use Rattle.run_audit.proofs.reading.arrange.Goals as goal

abbrev key : PlanSegment → Reverse ℕ × ℕ × ℕ
key segment = (record { 0 = segment.weight }, length segment.docs, segment.term_place)

pub returns-in-Ok : goal.returns-in-Ok
returns-in-Ok c = stable_is_sorted plan_cmp plan_total c.args.segments.now.items c.sort_by_key.new.self.items
    (c.in-Ok.ensures.sorted key (answers_always _ _ _ (λ f a r f' called. search rules)))
    (c.in-Ok.ensures.stable key (answers_always _ _ _ (λ f a r f' called. search rules)))
