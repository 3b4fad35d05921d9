-- What a plan over segments has in common with the plan of definitions, whose segments hold their documents.
use Rattle.std.specs.Prelude.{ℕ, ◌≡◌, length, map}
use Rattle.ranking_model.specs.declared.plan_segment.PlanSegment.{PlanSegment}
use Rattle.ranking_model.specs.declared.plan.QueryPlan.{QueryPlan}
use Rattle.segment_plan.specs.declared.entry.PlanEntry.{PlanEntry}
use Rattle.segment_plan.specs.Entries.{PlanView}

-- a segment without its documents
pub record Shape : Type 0 where
  pub term_place : ℕ
  pub weight : ℕ
  pub size : ℕ

abbrev pub shape : PlanSegment → Shape
shape segment = record { term_place = segment.term_place; weight = segment.weight; size = length segment.docs }

abbrev pub entry_shape : PlanEntry → Shape
entry_shape entry = record { term_place = entry.term_place; weight = entry.weight; size = entry.count }

-- both have the same number of terms, and segment by segment the same place, weight and number of postings
pub record HasShape (view : PlanView) (plan : QueryPlan) : Type 0 where
  pub terms : plan.terms ≡ view.terms
  pub segments : map shape plan.segments ≡ map entry_shape view.entries
