-- Each posting joins the last segment or begins one, as the definition says.
use Rattle.std.proofs.Common.{◌∙◌, ap, Vec, Global}
use Rattle.ranking_model.specs.declared.plan_segment.PlanSegment.{PlanSegment}
use Rattle.ranking_model.specs.Programs.{place_cmp}
use Rattle.ranking_model.proofs.Sorting.{ascends_sorted}
use Rattle.ranking_model.proofs.PlanSegments.{place_total, grouped_joins, grouped_begins}
use Rattle.ranking_model.proofs.plan_segment.group.Goals.{then-continues+in_ok-add_to_last, else-continues+in_ok-begin}
use Rattle.ranking_model.proofs.plan_segment.group.Goals as goal

pub loop-posting-init : goal.loop-posting-init
loop-posting-init c = record { same = c.new-segments.ensures.items; ready = rw c.new-segments.ensures.items tt; order = ascends_sorted place_cmp place_total c.args.postings.now c.requires }

pub loop-posting-preserved : goal.loop-posting-preserved
loop-posting-preserved c = elim c.if-continues.branch [
  | then-continues+in_ok-add_to_last w ↦ grouped_joins c.loop-posting.segments.items c.deref.result.now _ c.args.postings.now c.loop-posting.posting-index _ c.continues.result
      c.loop-posting-test.true c.loop-posting.invariant c.deref.ensures.value c.continues.ensures w.if-continues.true (ap (λ (v : Vec PlanSegment Global). v.items) w.segments-is ∙ w.in_ok-add_to_last.ensures)
  | else-continues+in_ok-begin w ↦ grouped_begins c.loop-posting.segments.items c.deref.result.now _ c.args.postings.now c.loop-posting.posting-index _ c.continues.result
      c.loop-posting-test.true c.loop-posting.invariant c.deref.ensures.value c.continues.ensures w.if-continues.false (ap (λ (v : Vec PlanSegment Global). v.items) w.segments-is ∙ w.in_ok-begin.ensures)
]
