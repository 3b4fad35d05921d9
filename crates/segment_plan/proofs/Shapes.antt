-- Segments of definitions and entries of the same shapes have them in the plan's order too.
use Rattle.shared_lemmas.proofs.Common.{◌≡◌, List, map, sym, ap, ◌∙◌, map-map}
use Rattle.ranking_model.specs.declared.plan_segment.PlanSegment.{PlanSegment}
use Rattle.ranking_model.specs.Order.{sorted}
use Rattle.ranking_model.specs.Plan.{plan_cmp}
use Rattle.segment_plan.specs.declared.entry.PlanEntry.{PlanEntry}
use Rattle.segment_plan.specs.Entries.{entry_cmp}
use Rattle.segment_plan.specs.Shape.{Shape, shape, entry_shape}
use Rattle.segment_plan.proofs.Alike.{Alike}

-- a shape as an entry
abbrev of_shape : Shape → PlanEntry
of_shape s = record { term_place = s.term_place; segment = 0; weight = s.weight; count = s.size }

abbrev pub of_segment : PlanSegment → PlanEntry
of_segment segment = of_shape (shape segment)

abbrev pub of_entry : PlanEntry → PlanEntry
of_entry entry = of_shape (entry_shape entry)

pub sorted_alike : (segments : List PlanSegment) (entries : List PlanEntry) → Alike segments entries → sorted entry_cmp (map of_segment segments) ≡ map of_segment (sorted plan_cmp segments) → sorted entry_cmp (map of_entry entries) ≡ map of_entry (sorted entry_cmp entries)
    → Alike (sorted plan_cmp segments) (sorted entry_cmp entries)
sorted_alike segments entries alike left right =
    let same : map of_segment segments ≡ map of_entry entries = sym (map-map of_shape shape segments) ∙ ap (map of_shape) alike ∙ map-map of_shape entry_shape entries in
    let both : map of_segment (sorted plan_cmp segments) ≡ map of_entry (sorted entry_cmp entries) = sym left ∙ ap (sorted entry_cmp) same ∙ right in
    sym (map-map entry_shape of_segment (sorted plan_cmp segments)) ∙ ap (map entry_shape) both ∙ map-map entry_shape of_entry (sorted entry_cmp entries)
